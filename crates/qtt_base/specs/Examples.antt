-- Worked examples of the parts of a name and of the limits.
use Rattle.std.specs.Prelude.{◌≡◌, ◌∷◌, [], codes, replicate, false, true}
use Rattle.qtt_base.specs.Parts.{parts, has_long_part}
use Rattle.qtt_base.specs.Limits.{standard, limit_of, words_of}
use Rattle.qtt_base.specs.declared.limits.Quantity.TheVariants.{TextBytes, FilledNodes, TypeNumber}

-- the examples, computed
pub record NameRows : Type 0 where
  pub parts_of_qualified : parts (codes "Main.Nat") ≡ codes "Main" ∷ codes "Nat" ∷ []
  pub part_at_limit : has_long_part (replicate 255 97) ≡ false
  pub part_above_limit : has_long_part (replicate 256 97) ≡ true
  pub limit_of_text : limit_of standard TextBytes ≡ 1048576
  pub limit_of_filled : limit_of standard FilledNodes ≡ 1000000
  pub words_of_type_number : words_of TypeNumber ≡ codes "number after Type"
