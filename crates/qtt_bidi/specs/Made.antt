-- What a constructor asks.
use Rattle.std.specs.Prelude.{◌≡◌, Some}
use Rattle.qtt_term.specs.declared.term.ConId.{ConId}
use Rattle.qtt_term.specs.Signature.{ConSig}
use Rattle.qtt_term.specs.Entries.{Entries}
use Rattle.qtt_term.specs.Telescopes.{tele}
use Rattle.qtt_term.specs.View.{term}
use Rattle.qtt_bidi.specs.declared.signatures.Made as code
use Rattle.qtt_bidi.specs.Elaboration.{constructor_at, param_count}

-- the number of its family's parameters, and under these its fields and its type
pub record IsMade (G : Entries) (c : ConId) (m : code.Made) : Type 0 where
  pub sig : ConSig
  pub there : constructor_at G c ≡ Some sig
  pub params : m.params ≡ param_count G c
  pub fields : tele m.fields.items ≡ sig.fields
  pub type : term m.ty ≡ sig.result
