-- What a word is: as it is sorted, and as the crate `clap` looks at it.
use Rattle.std.proofs.Common.{◌≡◌, ◌∙◌, ◌&&◌, ℕ, true, false, cond, not, refl, sym, ap, ap₂, subst, arith, List, [], ◌∷◌, ◌++◌, length, take, drop, slice_get, encode_utf8_all, Option, Some, None, option_map, option_and_then, ne_eqb, inl, inr}
use Rattle.std.specs.List.{before_first}
use Rattle.std.specs.Option.{option_map_or}
use Rattle.std.specs.Str.{IsUtf8, bytes_eq, chars}
use Rattle.std.proofs.lemmas.Bool.{cases_eq}
use Rattle.std.proofs.lemmas.Str.{IsUtf8-past_char, chars_from_encodes, encode_ascii}
use Rattle.clap.specs.Lexer.{long_of, long_of_rest, short_of, short_of_rest, strip_byte}
use Rattle.clap.specs.Walk.{Row, Text, arg_by_long}
use Rattle.clap.specs.Faults.{bundle_fault, bundle_step_fault, flag_word_fault, flags_fault, long_fault}
use Rattle.clap.specs.declared.error.kind.ErrorKind.TheVariants as kind
use Rattle.qtt_words.specs.Sorting.{Word, Setting, Sort, is_equals, option_sort, or_unknown, setting_named, sort_of, value_in, with_value}
use Rattle.qtt_words.proofs.Arguments.{Key, by_name, held, rule_named, rule_of, rules}

abbrev pub dashes : Word
dashes = 45 ∷ 45 ∷ []

-- the word is an option, with the value that is attached to it
pub record IsOption (v : Word) (o : Setting) (value : Option Word) : Type 0 where
  pub no_end : bytes_eq v dashes ≡ false
  pub name : Word
  pub long : long_of v ≡ Some (name, value)
  pub argument : arg_by_long rules name ≡ Some (rule_of (Key.option o))

-- the word is refused, whatever is pending
pub record IsRefused (v : Word) : Type 0 where
  pub no_end : bytes_eq v dashes ≡ false
  pub fault : (rows : List Row) (pending : Option (Text × List Text))
      → flag_word_fault rules false (long_of v) v (held rows pending) ≡ kind.UnknownArgument ∷ []

pub record IsPlainWord (v : Word) : Type 0 where
  pub no_end : bytes_eq v dashes ≡ false
  pub no_long : long_of v ≡ None
  pub no_short : short_of v ≡ None

pub data Kind (v : Word) : Type 0 where
  ends : bytes_eq v dashes ≡ true → sort_of v ≡ Sort.ends → Kind v
  waits : (o : Setting) → IsOption v o None → sort_of v ≡ Sort.waits o → Kind v
  has : (o : Setting) (x : Word) → IsOption v o (Some x) → sort_of v ≡ Sort.has o x → Kind v
  unknown : IsRefused v → sort_of v ≡ Sort.unknown → Kind v
  plain : IsPlainWord v → sort_of v ≡ Sort.plain → Kind v

-- ---- words that begin with two dashes

option_word : (x : ℕ) (xs : Word) → Kind (45 ∷ 45 ∷ x ∷ xs)
option_word x xs = go (setting_named (before_first is_equals (x ∷ xs))) (value_in (x ∷ xs)) refl refl
  where
    go : (named : Option Setting) (value : Option Word) → setting_named (before_first is_equals (x ∷ xs)) ≡ named
        → value_in (x ∷ xs) ≡ value → Kind (45 ∷ 45 ∷ x ∷ xs)
    go None value e f = Kind.unknown (record {
      no_end = refl;
      fault = λ rows pending.
          ap (λ a. long_fault rules false a (value_in (x ∷ xs)) (held rows pending))
          (by_name (before_first is_equals (x ∷ xs)) ∙ ap rule_named e);
    }) (ap (λ o. or_unknown (option_map (with_value (value_in (x ∷ xs))) o)) e)
    go (Some o) None e f = Kind.waits o (record {
      no_end = refl;
      name = before_first is_equals (x ∷ xs);
      long = ap (λ v. Some (before_first is_equals (x ∷ xs), v)) f;
      argument = by_name (before_first is_equals (x ∷ xs)) ∙ ap rule_named e;
    }) (ap₂ (λ v o. or_unknown (option_map (with_value v) o)) f e)
    go (Some o) (Some v) e f = Kind.has o v (record {
      no_end = refl;
      name = before_first is_equals (x ∷ xs);
      long = ap (λ v. Some (before_first is_equals (x ∷ xs), v)) f;
      argument = by_name (before_first is_equals (x ∷ xs)) ∙ ap rule_named e;
    }) (ap₂ (λ v o. or_unknown (option_map (with_value v) o)) f e)

-- ---- words that begin with one dash

-- there is a first character
first_character : (b : ℕ) (bs : Word) → IsUtf8 (45 ∷ b ∷ bs) → (c : ℕ) × (slice_get (chars (b ∷ bs)) 0 ≡ Some c)
first_character b bs u = go rest.0 (rest.1.1) (chars_from_encodes rest.0 (b ∷ bs) rest rest.1.1)
  where
    rest : IsUtf8 (b ∷ bs)
    rest = IsUtf8-past_char (45 ∷ b ∷ bs) (b ∷ bs) 45 u (ap (λ l. l ++ b ∷ bs) (sym (encode_ascii 45 (omega arith))))

    go : (cs : List ℕ) → encode_utf8_all cs ≡ b ∷ bs → cs ≡ chars (b ∷ bs)
        → (c : ℕ) × (slice_get (chars (b ∷ bs)) 0 ≡ Some c)
    go [] spelt same = cc
    go (c ∷ cs) spelt same = (c, ap (λ l. slice_get l 0) (sym same))

short_word : (b : ℕ) (bs : Word) → (b ≡ 45 → ⊥) → IsUtf8 (45 ∷ b ∷ bs) → Kind (45 ∷ b ∷ bs)
unfolding flags_fault
short_word b bs other u = Kind.unknown (record {
  no_end = ap (λ t. t && bytes_eq bs []) (ne_eqb b 45 other);
  fault = λ rows pending.
      ap (λ l. flag_word_fault rules false l (45 ∷ b ∷ bs) (held rows pending)) no_long
      ∙ ap (λ s. option_map_or (λ flags. bundle_fault rules false flags (held rows pending)) s []) short
      ∙ ap (λ c. bundle_step_fault rules false c (b ∷ bs) 0 (held rows pending) (flags_fault rules false (length bs)))
      (first_character b bs u).1;
}) (ap₂ (λ x y. cond (x && bytes_eq bs []) Sort.ends (cond (y && true) (option_sort bs) Sort.unknown))
    (ne_eqb b 45 other) (ne_eqb 45 b (λ e. other (sym e))))
  where
    no_long : long_of (45 ∷ b ∷ bs) ≡ None
    no_long = ap (λ t. option_and_then long_of_rest (cond t (Some bs) None)) (ne_eqb b 45 other)

    short : short_of (45 ∷ b ∷ bs) ≡ Some (b ∷ bs)
    short = ap (λ t. cond t None (Some (b ∷ bs))) (ne_eqb b 45 other)

-- ---- any word

two_dashes : (r : Word) → Kind (45 ∷ 45 ∷ r)
two_dashes [] = Kind.ends refl refl
two_dashes (x ∷ xs) = option_word x xs

one_dash : (r : Word) → IsUtf8 (45 ∷ r) → Kind (45 ∷ r)
one_dash [] u = Kind.plain (record { no_end = refl; no_long = refl; no_short = refl }) refl
one_dash (b ∷ bs) u = elim (cases_eq b 45) [
  | inl e ↦ subst (λ x. Kind (45 ∷ x ∷ bs)) (sym e) (two_dashes bs)
  | inr other ↦ short_word b bs other u
]

no_dash : (a : ℕ) (r : Word) → (a ≡ 45 → ⊥) → Kind (a ∷ r)
no_dash a r other = Kind.plain (record {
  no_end = ap (λ t. t && bytes_eq r (45 ∷ [])) (ne_eqb a 45 other);
  no_long =
      ap (λ t. option_and_then long_of_rest (option_and_then (strip_byte 45) (cond t (Some r) None)))
      (ne_eqb a 45 other);
  no_short = ap (λ t. option_and_then short_of_rest (cond t (Some r) None)) (ne_eqb a 45 other);
}) (ap₂ (λ x y. cond (x && bytes_eq r (45 ∷ [])) Sort.ends
    (cond (y && bytes_eq (45 ∷ []) (take 1 r)) (option_sort (drop 1 r))
    (cond ((y && true) && not (bytes_eq (a ∷ r) (45 ∷ []))) Sort.unknown Sort.plain)))
    (ne_eqb a 45 other) (ne_eqb 45 a (λ e. other (sym e))))

pub kind_of : (v : Word) → IsUtf8 v → Kind v
kind_of [] u = Kind.plain (record { no_end = refl; no_long = refl; no_short = refl }) refl
kind_of (a ∷ r) u = elim (cases_eq a 45) [
  | inl e ↦ subst (λ x. IsUtf8 (x ∷ r) → Kind (x ∷ r)) (sym e) (one_dash r) u
  | inr other ↦ no_dash a r other
]
