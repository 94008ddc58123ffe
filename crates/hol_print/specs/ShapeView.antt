-- How the top of a term is written, as the code sees it. Private contracts cite it.
use Rattle.std.specs.Prelude.{ℕ, ◌+◌, List, [], ◌∷◌, unwrap_or, slice_get}
use Rattle.hol_terms.specs.Nameless.{Nameless, base_of}
use Rattle.hol_print.specs.declared.shape.Shape.{Shape}
use Rattle.hol_print.specs.declared.shape.Shape.TheVariants as code
use Rattle.hol_print.specs.declared.site.Site.{Site}
use Rattle.hol_print.specs.declared.site.Site.TheVariants as site
use Rattle.hol_print.specs.BareView.{bare_of, nodes}
use Rattle.hol_print.specs.ShowType.{in_parentheses}
use Rattle.hol_print.specs.ShowTerm.{Syntax, Word, Binder, Infix, Negation, Apply, syntax, shown_name, is_operator, Place, Within, After}

-- a binder of symbol k over a variable of base a
abbrev pub binder_syntax : List (List ℕ) → List ℕ → List ℕ → Nameless → Syntax
binder_syntax env k a b = Binder k (shown_name env a b) (syntax (shown_name env a b ∷ env) b)

abbrev pub shape_syntax : List (List ℕ) → Shape → Syntax
shape_syntax env (code.Free name) = Word name.now
shape_syntax env (code.Bound i) = Word (unwrap_or (slice_get env i) [])
shape_syntax env (code.Constant c) = Word (in_parentheses (is_operator c.now) c.now)
shape_syntax env (code.Binder k v b) =
    binder_syntax env k.now (base_of v.now.0) (bare_of b.now)
shape_syntax env (code.Infix n c x y) = Infix n c.now (syntax env (bare_of x.now)) (syntax env (bare_of y.now))
shape_syntax env (code.Negation x) = Negation (syntax env (bare_of x.now))
shape_syntax env (code.Apply f x) = Apply (syntax env (bare_of f.now)) (syntax env (bare_of x.now))

-- the nodes of the parts
abbrev pub shape_nodes : Shape → ℕ
shape_nodes (code.Free name) = 0
shape_nodes (code.Bound i) = 0
shape_nodes (code.Constant c) = 0
shape_nodes (code.Binder k v b) = nodes (bare_of b.now)
shape_nodes (code.Infix n c x y) = nodes (bare_of x.now) + nodes (bare_of y.now)
shape_nodes (code.Negation x) = nodes (bare_of x.now)
shape_nodes (code.Apply f x) = nodes (bare_of f.now) + nodes (bare_of x.now)

abbrev pub site_place : Site → Place
site_place (site.Within n) = Within n
site_place (site.After k) = After k.now
