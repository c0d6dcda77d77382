-- Why families are in no well-formed environment.
use Rattle.std.proofs.Common.{◌≡◌, [], ◌∷◌, refl, arith}
use Rattle.qtt_usage.specs.Mult.{ω}
use Rattle.qtt_usage.specs.Uses.{zero_use}
use Rattle.qtt_term.specs.Term.{Sort, Pi}
use Rattle.qtt_term.specs.Signature.{plain_constructor, IntTy}
use Rattle.qtt_term.specs.Judgement.{Part}
use Rattle.qtt_term.specs.Environment.{WellFormed, TypesUpTo, ConstructorsFormed}
use Rattle.qtt_term.specs.Programs.{item}
use Rattle.qtt_term.specs.PositivityRows.{itself, over}
use Rattle.qtt_term.proofs.PositivityRows.{positivity_rows_hold}
use Rattle.qtt_confluence.proofs.Injective.{sort_injective}
use Rattle.qtt_preserve.proofs.Sound.{sound_of}
use Rattle.qtt_preserve.proofs.Inverted.{inverted}
use Rattle.qtt_programs.specs.Refused.{with_type_field, RefusedFamilies}

no-level : WellFormed with_type_field → TypesUpTo with_type_field 0 [] ((ω, Sort 0) ∷ []) → ⊥
no-level w (TypesUpTo.more {i = i} h below t rest) =
    let universe = ((inverted with_type_field Part.erased []).sort 0 (Sort i) zero_use h).0 in
    let level : 1 ≡ i = sort_injective with_type_field (sound_of w).bodies 1 i universe in
    absurd (omega (arith, level, below))

no-constructor : WellFormed with_type_field →
    ConstructorsFormed with_type_field (over (Sort 0)) (plain_constructor ((ω, Sort 0) ∷ []) ∷ []) → ⊥
no-constructor w (ConstructorsFormed.more c cs) = no-level w c.fields

pub families-refused : RefusedFamilies
families-refused = record {
  too_large = λ w. no-constructor w (w.families (item 0) (over (Sort 0)) refl).constructors;
  not_positive = λ w. positivity_rows_hold.in_a_domain (w.families (item 0) (over (Pi ω itself IntTy)) refl).positive;
}
