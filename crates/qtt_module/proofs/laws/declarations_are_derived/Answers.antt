use Rattle.qtt_module.proofs.Declared.{family_so, so_family, signature_so, so_signature}
use Rattle.qtt_module.proofs.laws.declarations_are_derived.Goals as goal

pub returns : goal.returns
returns c = record {
  family = λ G f M n ps t cs F. (family_so G f M n ps t cs F, so_family G f M n ps t cs F);
  signature = λ G d M n q t D. (signature_so G d M n q t D, so_signature G d M n q t D);
}
