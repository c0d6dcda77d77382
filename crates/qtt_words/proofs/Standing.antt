-- Rows of matches, and the sorted words that they stand for.
use Rattle.std.proofs.Common.{◌≡◌, ◌∙◌, Bool, true, false, cond, refl, sym, ap, List, [], ◌∷◌, ◌++◌, is_some, slice_get, Option, Some, None, option_map, option_and_then, ◌||◌, codes}
use Rattle.std.specs.List.{find, list_any}
use Rattle.std.specs.Option.{option_map_or}
use Rattle.std.specs.Str.{bytes_eq}
use Rattle.std.proofs.lemmas.Slice.Eq.{bytes_eq-Decides}
use Rattle.clap.specs.Walk.{Row, first_of, has_row}
use Rattle.clap.specs.Takes.{is_given}
use Rattle.clap.specs.Facts.{explicit_source}
use Rattle.qtt_words.specs.Sorting.{Word, Setting, Sorted, is_same, only_plain, values_of}
use Rattle.qtt_words.proofs.Arguments.{Key, id_of, name_of, row}

-- ---- searches

abbrev pub or_first : {X : Type 0} → Option X → Option X → Option X
or_first None o = o
or_first (Some x) o = Some x

or_none : {X : Type 0} (o : Option X) → or_first o None ≡ o
or_none None = refl
or_none (Some x) = refl

find-append : {X : Type 0} (p : X → Bool) (xs ys : List X) → find p (xs ++ ys) ≡ or_first (find p xs) (find p ys)
find-append p [] ys = refl
find-append p (x ∷ xs) ys = go (p x) (find-append p xs ys)
  where
    go : (b : Bool) → find p (xs ++ ys) ≡ or_first (find p xs) (find p ys)
        → cond b (Some x) (find p (xs ++ ys)) ≡ or_first (cond b (Some x) (find p xs)) (find p ys)
    go true e = refl
    go false e = e

is_some-find : {X : Type 0} (p : X → Bool) (xs : List X) → list_any p xs ≡ is_some (find p xs)
is_some-find p [] = refl
is_some-find p (x ∷ xs) = go (p x) (is_some-find p xs)
  where
    go : (b : Bool) → list_any p xs ≡ is_some (find p xs) → (b || list_any p xs) ≡ is_some (cond b (Some x) (find p xs))
    go true e = refl
    go false e = e

first-append : {X : Type 0} (xs ys : List X) → slice_get (xs ++ ys) 0 ≡ or_first (slice_get xs 0) (slice_get ys 0)
first-append [] ys = refl
first-append (x ∷ xs) ys = refl

pub values_of-append : (o : Setting) (xs ys : List (Setting × Word))
    → values_of o (xs ++ ys) ≡ values_of o xs ++ values_of o ys
values_of-append o [] ys = refl
values_of-append o (x ∷ xs) ys = go (is_same o x.0) (values_of-append o xs ys)
  where
    go : (b : Bool) → values_of o (xs ++ ys) ≡ values_of o xs ++ values_of o ys
        → cond b (x.1 ∷ values_of o (xs ++ ys)) (values_of o (xs ++ ys))
        ≡ cond b (x.1 ∷ values_of o xs) (values_of o xs) ++ values_of o ys
    go true e = ap (λ vs. x.1 ∷ vs) e
    go false e = e

-- ---- what sorted words say of an argument

abbrev pub shown : Key → Sorted → Option Word
shown Key.command s = slice_get s.plain 0
shown Key.operand s = slice_get s.plain 1
shown (Key.option o) s = slice_get (values_of o s.options) 0

abbrev pub row_found : Word → List Row → Option Row
row_found id rows = find (λ r. bytes_eq r.id id) rows

-- the rows say the same
pub record Shows (rows : List Row) (s : Sorted) : Type 0 where
  pub found : (k : Key) → row_found (id_of k) rows ≡ option_map (row (id_of k)) (shown k s)

pub shows_row : (rows : List Row) (s : Sorted) (k : Key) → Shows rows s → has_row (id_of k) rows ≡ is_some (shown k s)
shows_row rows s k h = is_some-find _ rows ∙ ap is_some (h.found k) ∙ go (shown k s)
  where
    go : (o : Option Word) → is_some (option_map (row (id_of k)) o) ≡ is_some o
    go None = refl
    go (Some v) = refl

pub shows_given : (rows : List Row) (s : Sorted) (k : Key) → Shows rows s
    → is_given (id_of k) rows ≡ is_some (shown k s)
shows_given rows s k h = ap (λ o. option_map_or (λ r. explicit_source r.source) o false) (h.found k) ∙ go (shown k s)
  where
    go : (o : Option Word)
        → option_map_or (λ (r : Row). explicit_source r.source) (option_map (row (id_of k)) o) false ≡ is_some o
    go None = refl
    go (Some v) = refl

pub shows_first : (rows : List Row) (s : Sorted) (k : Key) → Shows rows s → first_of (id_of k) rows ≡ shown k s
shows_first rows s k h = ap (option_and_then (λ (r : Row). slice_get r.values 0)) (h.found k) ∙ go (shown k s)
  where
    go : (o : Option Word) → option_and_then (λ (r : Row). slice_get r.values 0) (option_map (row (id_of k)) o) ≡ o
    go None = refl
    go (Some v) = refl

-- ---- one word more

abbrev pub and_plain : Sorted → Word → Sorted
and_plain s v = record s { plain = s.plain ++ v ∷ [] }

abbrev pub and_option : Sorted → Setting → Word → Sorted
and_option s o v = record s { options = s.options ++ (o, v) ∷ [] }

-- t says what s says, and besides the value v of an argument
abbrev pub Says : Key → Word → Sorted → Sorted → Type 0
Says k v s t = (j : Key) → shown j t ≡ or_first (shown j s) (cond (bytes_eq (id_of k) (id_of j)) (Some v) None)

pub says_first : (v : Word) (options : List (Setting × Word))
    → Says Key.command v (record { plain = []; options = options }) (record { plain = v ∷ []; options = options })
says_first v options Key.command = refl
says_first v options Key.operand = refl
says_first v options (Key.option Setting.steps) = sym (or_none _)
says_first v options (Key.option Setting.budget) = sym (or_none _)
says_first v options (Key.option Setting.jobs) = sym (or_none _)

pub says_second : (c v : Word) (options : List (Setting × Word))
    → Says Key.operand v (record { plain = c ∷ []; options = options })
    (record { plain = c ∷ v ∷ []; options = options })
says_second c v options Key.command = refl
says_second c v options Key.operand = refl
says_second c v options (Key.option Setting.steps) = sym (or_none _)
says_second c v options (Key.option Setting.budget) = sym (or_none _)
says_second c v options (Key.option Setting.jobs) = sym (or_none _)

one_value : (o j : Setting) (v : Word)
    → slice_get (values_of j ((o, v) ∷ [])) 0 ≡ cond (bytes_eq (name_of o) (name_of j)) (Some v) None
one_value Setting.steps Setting.steps v = refl
one_value Setting.steps Setting.budget v = refl
one_value Setting.steps Setting.jobs v = refl
one_value Setting.budget Setting.steps v = refl
one_value Setting.budget Setting.budget v = refl
one_value Setting.budget Setting.jobs v = refl
one_value Setting.jobs Setting.steps v = refl
one_value Setting.jobs Setting.budget v = refl
one_value Setting.jobs Setting.jobs v = refl

no_plain : (o : Setting)
    → (bytes_eq (name_of o) (codes "COMMAND") ≡ false) × (bytes_eq (name_of o) (codes "MODULE") ≡ false)
no_plain Setting.steps = (refl, refl)
no_plain Setting.budget = (refl, refl)
no_plain Setting.jobs = (refl, refl)

pub says_option : (s : Sorted) (o : Setting) (v : Word) → Says (Key.option o) v s (and_option s o v)
says_option s o v Key.command =
    sym (ap (λ b. or_first (slice_get s.plain 0) (cond b (Some v) None)) (no_plain o).0 ∙ or_none _)
says_option s o v Key.operand =
    sym (ap (λ b. or_first (slice_get s.plain 1) (cond b (Some v) None)) (no_plain o).1 ∙ or_none _)
says_option s o v (Key.option j) =
    ap (λ vs. slice_get vs 0) (values_of-append j s.options ((o, v) ∷ []))
    ∙ first-append (values_of j s.options) (values_of j ((o, v) ∷ []))
    ∙ ap (or_first (slice_get (values_of j s.options) 0)) (one_value o j v)

pub shows_more : (k : Key) (v : Word) (rows : List Row) (s t : Sorted) → Shows rows s → Says k v s t
    → Shows (rows ++ row (id_of k) v ∷ []) t
shows_more k v rows s t h says = record {
  found = λ j.
      find-append (λ r. bytes_eq r.id (id_of j)) rows (row (id_of k) v ∷ [])
      ∙ ap (λ o. or_first o (cond (bytes_eq (id_of k) (id_of j)) (Some (row (id_of k) v)) None)) (h.found j)
      ∙ join (id_of j) (bytes_eq (id_of k) (id_of j)) (shown j s) ((bytes_eq-Decides (id_of k) (id_of j)).0)
      ∙ ap (option_map (row (id_of j))) (sym (says j));
}
  where
    join : (id : Word) (b : Bool) (o : Option Word) → (b ≡ true → id_of k ≡ id)
        → or_first (option_map (row id) o) (cond b (Some (row (id_of k) v)) None)
        ≡ option_map (row id) (or_first o (cond b (Some v) None))
    join id true None same = ap (λ w. Some (row w v)) (same refl)
    join id true (Some w) same = refl
    join id false None same = refl
    join id false (Some w) same = refl

pub shows_nothing : Shows [] (only_plain [])
shows_nothing = record { found = go }
  where
    go : (k : Key) → row_found (id_of k) [] ≡ option_map (row (id_of k)) (shown k (only_plain []))
    go Key.command = refl
    go Key.operand = refl
    go (Key.option o) = refl
