-- What bytes spell.
use Rattle.std.proofs.Common.{◌≡◌, ℕ, ◌⊎◌, inl, inr, Bool, true, false, cond, ◌&&◌, not, List, Option, Some, None, option_map, refl}
use Rattle.std.specs.List.{slice_get}
use Rattle.std.specs.Str.{IsUtf8, chars, is_utf8}
use Rattle.std.proofs.lemmas.Bool.{cases_Bool}
use Rattle.std.proofs.lemmas.Str.{is_utf8-from_IsUtf8, IsUtf8-from_is_utf8}
use Rattle.qtt_base.specs.Parts.{has_long_part}
use Rattle.qtt_diag.specs.Fault.{character_spelled, name_spelled}

pub no_text : (word : List ℕ) → (IsUtf8 word → ⊥) → is_utf8 word ≡ false
no_text word none = by (cases_Bool (is_utf8 word))
  where
    by : (is_utf8 word ≡ true) ⊎ (is_utf8 word ≡ false) → is_utf8 word ≡ false
    by (inl valid) = absurd (none (IsUtf8-from_is_utf8 word valid))
    by (inr is) = is

pub no_character : (word : List ℕ) → (IsUtf8 word → ⊥) → character_spelled word ≡ None
unfolding character_spelled
no_character word none = rw (no_text word none) refl

pub first_character : (word : List ℕ) → IsUtf8 word → character_spelled word ≡ slice_get (chars word) 0
unfolding character_spelled
first_character word valid = rw (is_utf8-from_IsUtf8 word valid) refl

pub is_name : (word : List ℕ) → IsUtf8 word → has_long_part word ≡ false → name_spelled word ≡ Some word
is_name word valid short = rw (is_utf8-from_IsUtf8 word valid, short) refl

pub no_name : (word : List ℕ) → has_long_part word ≡ true → name_spelled word ≡ None
no_name word long = by (is_utf8 word)
  where
    by : (b : Bool) → cond (b && not (has_long_part word)) (Some word) None ≡ None
    by true = rw long refl
    by false = refl

pub same_option : {A : Type 0} (o : Option A) → o ≡ option_map (λ x. x) o
same_option None = refl
same_option (Some x) = refl
