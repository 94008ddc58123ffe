-- Turns under one binder more: where a free variable of a term is bound outside, a turn of the closed term is the closed turn.
use Rattle.std.proofs.Common.{◌≡◌, ℕ, ◌+◌, List, [], ◌∷◌, ◌++◌, length, refl, ap, sym, ◌∙◌, Bool, true, false, cond, Option, Some, None, arith}
use Rattle.std.specs.Option.{option_map, option_or}
use Rattle.hol_types.specs.Tree.{TypeTree}
use Rattle.hol_types.specs.Equal.{variable_eq}
use Rattle.hol_terms.specs.Nameless.{Nameless, free, bound, fixed, app, lam}
use Rattle.hol_subst.specs.Closing.{close}
use Rattle.hol_match.proofs.Contracta.{contractum_close}
use Rattle.hol_conv.specs.declared.redexes.Redexes.{Redexes}
use Rattle.hol_conv.specs.declared.redexes.Redexes.TheVariants.{Beta, Rules}
use Rattle.hol_conv.specs.Redexes.{beta_contractum, contraction, IsOutside}
use Rattle.hol_conv.specs.Turns.{turn}
use Rattle.hol_conv.proofs.Commuting.{reduct_close}

abbrev Var : Type 0
Var = List ℕ × TypeTree

abbrev pub Contract : Type 0
Contract = List TypeTree → Nameless → Option Nameless

-- what a term becomes where v is bound outside is what it becomes, closed
abbrev pub Commutes : Contract → Var → Type 0
Commutes contract v = (env : List TypeTree) (n : Nameless) → contract (env ++ v.1 ∷ []) (close v (length env) n) ≡ option_map (close v (length env)) (contract env n)

beta_close : (v : Var) (k : ℕ) (n : Nameless) → beta_contractum (close v k n) ≡ option_map (close v k) (beta_contractum n)
beta_close v k (free w) = by (variable_eq v w)
  where
    by : (c : Bool) → beta_contractum (cond c (bound k) (free w)) ≡ None
    by true = refl
    by false = refl
beta_close v k (bound i) = refl
beta_close v k (fixed c s) = refl
beta_close v k (app f x) = reduct_close v k f x
beta_close v k (lam a s b) = refl

pub commutes : (r : Redexes) (v : List ℕ × TypeTree) → IsOutside r v → Commutes (contraction r) v
commutes Beta v h env n = beta_close v (length env) n
commutes (Rules set) v h env n = contractum_close set.now.rules.items v env n h

module _ (contract : Contract) (v : Var) (h : Commutes contract v) where
  app_close : (k : ℕ) (f x : Nameless) (r o p : Option Nameless) → option_or (option_map (close v k) r) (option_or (option_map (λ g. app g (close v k x)) (option_map (close v k) o)) (option_map (λ y. app (close v k f) y) (option_map (close v k) p))) ≡ option_map (close v k) (option_or r (option_or (option_map (λ g. app g x) o) (option_map (λ y. app f y) p)))
  app_close k f x (Some u) o p = refl
  app_close k f x None (Some g) p = refl
  app_close k f x None None (Some y) = refl
  app_close k f x None None None = refl

  lam_close : (k : ℕ) (a : List ℕ) (s : TypeTree) (r o : Option Nameless) → option_or (option_map (close v k) r) (option_map (λ b. lam a s b) (option_map (close v (k + 1)) o)) ≡ option_map (close v k) (option_or r (option_map (λ b. lam a s b) o))
  lam_close k a s (Some u) o = refl
  lam_close k a s None (Some b) = refl
  lam_close k a s None None = refl

  -- a variable, bound or not, is no term with parts
  turn_variable : (env : List TypeTree) (k : ℕ) (w : Var) → turn contract env (close v k (free w)) ≡ contract env (close v k (free w))
  turn_variable env k w = by (variable_eq v w)
    where
      by : (c : Bool) → turn contract env (cond c (bound k) (free w)) ≡ contract env (cond c (bound k) (free w))
      by true = refl
      by false = refl

  pub turn_close : (env : List TypeTree) (n : Nameless) → turn contract (env ++ v.1 ∷ []) (close v (length env) n) ≡ option_map (close v (length env)) (turn contract env n)
  turn_close env (free w) = turn_variable (env ++ v.1 ∷ []) (length env) w ∙ h env (free w)
  turn_close env (bound i) = h env (bound i)
  turn_close env (fixed c s) = h env (fixed c s)
  turn_close env (app f x) =
      (λ i. option_or (h env (app f x) i) (option_or (option_map (λ g. app g (close v (length env) x)) (turn_close env f i)) (option_map (λ y. app (close v (length env) f) y) (turn_close env x i))))
      ∙ app_close (length env) f x (contract env (app f x)) (turn contract env f) (turn contract env x)
  turn_close env (lam a s b) =
      let m : length env + 1 ≡ length (s ∷ env) = omega arith in
      let inner : turn contract (s ∷ (env ++ v.1 ∷ [])) (close v (length env + 1) b) ≡ option_map (close v (length env + 1)) (turn contract (s ∷ env) b) =
      ap (λ k. turn contract (s ∷ (env ++ v.1 ∷ [])) (close v k b)) m ∙ turn_close (s ∷ env) b ∙ ap (λ k. option_map (close v k) (turn contract (s ∷ env) b)) (sym m) in
      (λ i. option_or (h env (lam a s b) i) (option_map (λ d. lam a s d) (inner i))) ∙ lam_close (length env) a s (contract env (lam a s b)) (turn contract (s ∷ env) b)
