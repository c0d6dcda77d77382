-- Sorted words behind others, and when they make a line.
use Rattle.std.proofs.Common.{◌≡◌, ◌∙◌, ◌<◌, ◌≤◌, ◌+◌, ◌&&◌, Bool, true, false, cond, refl, sym, ap, ap₂, arith, List, [], ◌∷◌, ◌++◌, length, slice_get, nat_eq, Option, Some, None, option_map, append-nil, append_assoc, length-append, le-leb, ne_eqb}
use Rattle.std.specs.List.{list_all}
use Rattle.std.proofs.lemmas.Bool.{and_left, and_right, lt-leb}
use Rattle.qtt_words.specs.Sorting.{Word, Setting, Sorted, is_line, is_once, is_same, only_plain, values_of, with_option, with_plain}
use Rattle.qtt_words.proofs.Arguments.{Key}
use Rattle.qtt_words.proofs.Standing.{and_option, and_plain, shown, values_of-append}

abbrev pub joined : Sorted → Sorted → Sorted
joined s r = record { plain = s.plain ++ r.plain; options = s.options ++ r.options }

pub joined-nothing : (s : Sorted) → joined s (only_plain []) ≡ s
joined-nothing s = λ i. record { plain = append-nil s.plain i; options = append-nil s.options i }

pub nothing-joined : (o : Option Sorted) → option_map (joined (only_plain [])) o ≡ o
nothing-joined None = refl
nothing-joined (Some r) = refl

pub joined-with_plain : (s : Sorted) (v : Word) (o : Option Sorted)
    → option_map (joined s) (option_map (with_plain v) o) ≡ option_map (joined (and_plain s v)) o
joined-with_plain s v None = refl
joined-with_plain s v (Some r) =
    ap (λ ws. Some (record (joined s r) { plain = ws })) (sym (append_assoc s.plain (v ∷ []) r.plain))

pub joined-with_option : (s : Sorted) (o : Setting) (v : Word) (r : Option Sorted)
    → option_map (joined s) (option_map (with_option o v) r) ≡ option_map (joined (and_option s o v)) r
joined-with_option s o v None = refl
joined-with_option s o v (Some r) =
    ap (λ os. Some (record (joined s r) { options = os })) (sym (append_assoc s.options ((o, v) ∷ []) r.options))

-- ---- no more than a line has

pub record IsFine (s : Sorted) : Type 0 where
  pub plain : length s.plain ≤ 2
  pub once : (o : Setting) → length (values_of o s.options) ≤ 1

pub nothing_fine : IsFine (only_plain [])
nothing_fine = record { plain = omega arith; once = λ o. omega arith }

pub fine_plain : (s : Sorted) (v : Word) → IsFine s → length s.plain < 2 → IsFine (and_plain s v)
fine_plain s v fine few = record { plain = omega (arith, length-append s.plain (v ∷ [])); once = fine.once }

same_is : (j o : Setting) → is_same j o ≡ true → j ≡ o
same_is Setting.steps Setting.steps e = refl
same_is Setting.steps Setting.budget e = cc
same_is Setting.steps Setting.jobs e = cc
same_is Setting.budget Setting.steps e = cc
same_is Setting.budget Setting.budget e = refl
same_is Setting.budget Setting.jobs e = cc
same_is Setting.jobs Setting.steps e = cc
same_is Setting.jobs Setting.budget e = cc
same_is Setting.jobs Setting.jobs e = refl

same_self : (o : Setting) → is_same o o ≡ true
same_self Setting.steps = refl
same_self Setting.budget = refl
same_self Setting.jobs = refl

-- how often an option stands
count-append : (o : Setting) (xs ys : List (Setting × Word))
    → length (values_of o (xs ++ ys)) ≡ length (values_of o xs) + length (values_of o ys)
count-append o xs ys = ap length (values_of-append o xs ys) ∙ length-append (values_of o xs) (values_of o ys)

none_yet : (vs : List Word) → slice_get vs 0 ≡ None → length vs ≡ 0
none_yet [] e = refl
none_yet (v ∷ vs) e = cc

some_yet : (vs : List Word) (x : Word) → slice_get vs 0 ≡ Some x → 1 ≤ length vs
some_yet [] x e = cc
some_yet (v ∷ vs) x e = omega arith

pub fine_option : (s : Sorted) (o : Setting) (v : Word) → IsFine s → shown (Key.option o) s ≡ None
    → IsFine (and_option s o v)
fine_option s o v fine none = record {
  plain = fine.plain;
  once = λ j. omega (arith, count-append j s.options ((o, v) ∷ []), go j (is_same j o) refl);
}
  where
    go : (j : Setting) (b : Bool) → is_same j o ≡ b → length (values_of j s.options) + length (cond b (v ∷ []) []) ≤ 1
    go j false e = omega (arith, fine.once j)
    go j true e =
        let same = ap (λ k. slice_get (values_of k s.options) 0) (same_is j o e) in
        omega (arith, none_yet (values_of j s.options) (same ∙ none))

-- ---- lines

all_settings : (p : Setting → Bool) → ((o : Setting) → p o ≡ true)
    → list_all p (Setting.steps ∷ Setting.budget ∷ Setting.jobs ∷ []) ≡ true
all_settings p each =
    ap₂ ◌&&◌ (each Setting.steps) (ap₂ ◌&&◌ (each Setting.budget) (ap (λ b. b && true) (each Setting.jobs)))

some_setting : (p : Setting → Bool) (o : Setting) → p o ≡ false
    → list_all p (Setting.steps ∷ Setting.budget ∷ Setting.jobs ∷ []) ≡ false
some_setting p Setting.steps e = and_left (p Setting.steps) _ e
some_setting p Setting.budget e = and_right (p Setting.steps) _ (and_left (p Setting.budget) _ e)
some_setting p Setting.jobs e =
    and_right (p Setting.steps) _ (and_right (p Setting.budget) _ (and_left (p Setting.jobs) true e))

pub fine_line : (s : Sorted) → IsFine s → is_line (Some s) ≡ nat_eq (length s.plain) 2
fine_line s fine =
    ap (λ b. nat_eq (length s.plain) 2 && b) (all_settings (is_once s.options) (λ o. le-leb _ _ (fine.once o)))
    ∙ go (nat_eq (length s.plain) 2)
  where
    go : (b : Bool) → (b && true) ≡ b
    go true = refl
    go false = refl

-- an option that stands twice
pub no_line_twice : (s : Sorted) (o : Setting) (v x : Word) (r : Option Sorted) → shown (Key.option o) s ≡ Some x
    → is_line (option_map (joined (and_option s o v)) r) ≡ false
no_line_twice s o v x None e = refl
no_line_twice s o v x (Some r) e =
    and_right (nat_eq (length (s.plain ++ r.plain)) 2) _
    (some_setting (is_once ((s.options ++ (o, v) ∷ []) ++ r.options)) o (lt-leb _ _ many))
  where
    one : length (values_of o ((o, v) ∷ [])) ≡ 1
    one = ap (λ b. length (cond b (v ∷ []) [])) (same_self o)

    many : 1 < length (values_of o ((s.options ++ (o, v) ∷ []) ++ r.options))
    many = omega (
      arith,
      one,
      some_yet (values_of o s.options) x e,
      count-append o (s.options ++ (o, v) ∷ []) r.options,
      count-append o s.options ((o, v) ∷ []),
    )

-- a third plain word
pub no_line_three : (s : Sorted) (r : Option Sorted) → 2 < length s.plain → is_line (option_map (joined s) r) ≡ false
no_line_three s None many = refl
no_line_three s (Some r) many =
    let longer = length-append s.plain r.plain in
    and_left _ _ (ne_eqb (length (s.plain ++ r.plain)) 2 (λ e. omega arith))
