-- The signature that the program's value stands for.
use Rattle.hol_resolve.specs.declared.signature.Signature.{Signature}
use Rattle.hol_resolve.specs.Signature.{SignatureValue}

abbrev pub signature_value : Signature → SignatureValue
signature_value l = record { constants = l.constants.items; types = l.types.items }
