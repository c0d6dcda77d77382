-- What the matches of the crate `clap` ask for is what the words ask for.
use Rattle.std.proofs.Common.{◌≡◌, ◌∙◌, ◌≤◌, ℕ, Bool, true, false, cond, refl, sym, ap, ap₂, arith, List, [], ◌∷◌, ◌++◌, map, length, slice_get, nat_eq, nat_le, subst, Option, Some, None, String, Global, string_bytes, codes, inl, inr, true≢false, eqb-true, leb-true}
use Rattle.std.specs.List.{AllByRecursion}
use Rattle.std.specs.Str.{IsUtf8}
use Rattle.std.proofs.lemmas.Bool.{and_cases, and_parts}
use Rattle.std.proofs.lemmas.Str.{IsUtf8-string_bytes}
use Rattle.clap.specs.Walk.{Row, first_of, idle, is_empty, nothing_held, rows_of}
use Rattle.clap.specs.Simple.{built, matches_of}
use Rattle.clap.specs.Faults.{fault_of}
use Rattle.clap.specs.Matches.{first_value}
use Rattle.clap.specs.declared.parser.matches.Found.{Found}
use Rattle.clap.proofs.WalkLemmas.{first_value-rows}
use Rattle.clap.proofs.FaultLemmas.{leaf_fault}
use Rattle.qtt_words.specs.Sorting.{Word, Setting, Sorted, is_line, is_once, sorted, values_of}
use Rattle.qtt_words.specs.Asked.{Asked, Work, ◌>>=◌, asked, asked_in, asked_of, default, given, greatest, module_name, number_or, work_named, work_of}
use Rattle.qtt_words.specs.Clap.{asked_from, one_option, one_plain, qtt_app, sorted_by_clap, sorted_in}
use Rattle.qtt_words.proofs.Arguments.{Key}
use Rattle.qtt_words.proofs.Standing.{Shows, shows_first, shows_nothing}
use Rattle.qtt_words.proofs.Turns.{standing}
use Rattle.qtt_words.proofs.Joined.{nothing-joined, nothing_fine}
use Rattle.qtt_words.proofs.Lines.{Agrees, IsStanding, ShowsIn, faults, parts, runs}

-- ---- all words

texts : (words : List (String Global)) → AllByRecursion IsUtf8 (map string_bytes words)
texts [] = tt
texts (w ∷ words) = (IsUtf8-string_bytes w, texts words)

start : IsStanding [] None (parts [] [])
start = record { passes = refl; shows = shows_nothing; fine = nothing_fine }

agrees : (ws : List Word) → AllByRecursion IsUtf8 ws → Agrees (standing idle [] None 1 false) ws (sorted ws)
agrees ws u =
    subst (Agrees (standing idle [] None 1 false) ws) (nothing-joined (sorted ws)) (runs ws u [] [] [] None start)

faults_are : (ws : List Word) → fault_of qtt_app ws ≡ faults (standing idle [] None 1 false) ws
faults_are ws = leaf_fault (built qtt_app) nothing_held ws refl

lines_taken : (ws : List Word) → AllByRecursion IsUtf8 ws → is_empty (fault_of qtt_app ws) ≡ is_line (sorted ws)
lines_taken ws u = ap is_empty (faults_are ws) ∙ (agrees ws u).without_fault

-- ---- a line

-- what is asked for, by its parts
abbrev four : Work → ℕ → ℕ → ℕ → Option Asked
four w s b j = Some (record { work = w; steps = s; budget = b; jobs = j })

abbrev whole : Option Work → Option ℕ → Option ℕ → Option ℕ → Option Asked
whole work steps budget jobs =
    work >>= (λ w. steps >>= (λ s. budget >>= (λ b. jobs >>= (λ j. four w s b j))))

two_plain : (ws : List Word) → nat_eq (length ws) 2 ≡ true
    → one_plain (slice_get ws 0) ++ one_plain (slice_get ws 1) ≡ ws
two_plain [] e = absurd (true≢false (sym e))
two_plain (c ∷ []) e = absurd (true≢false (sym e))
two_plain (c ∷ m ∷ []) e = refl
two_plain (c ∷ m ∷ x ∷ more) e =
    let two : length (c ∷ m ∷ x ∷ more) ≡ 2 = eqb-true _ _ e in
    absurd (omega arith)

one_value : (vs : List Word) → length vs ≤ 1 → one_plain (slice_get vs 0) ≡ vs
one_value [] few = refl
one_value (v ∷ []) few = refl
one_value (v ∷ w ∷ more) few = absurd (omega arith)

abbrev three : Option Word → Option Word → Option Word → List (Setting × Word)
three a b c = one_option Setting.steps a ++ (one_option Setting.budget b ++ one_option Setting.jobs c)

of_three : (a b c : Option Word)
    → (values_of Setting.steps (three a b c) ≡ one_plain a) × (values_of Setting.budget (three a b c) ≡ one_plain b)
    × (values_of Setting.jobs (three a b c) ≡ one_plain c)
of_three None None None = (refl, refl, refl)
of_three None None (Some c) = (refl, refl, refl)
of_three None (Some b) None = (refl, refl, refl)
of_three None (Some b) (Some c) = (refl, refl, refl)
of_three (Some a) None None = (refl, refl, refl)
of_three (Some a) None (Some c) = (refl, refl, refl)
of_three (Some a) (Some b) None = (refl, refl, refl)
of_three (Some a) (Some b) (Some c) = (refl, refl, refl)

-- the values of the three options in rows
values_in : (rows : List Row)
    → (values_of Setting.steps (sorted_in rows).options ≡ one_plain (first_of (codes "steps") rows))
    × (values_of Setting.budget (sorted_in rows).options ≡ one_plain (first_of (codes "budget") rows))
    × (values_of Setting.jobs (sorted_in rows).options ≡ one_plain (first_of (codes "jobs") rows))
values_in rows =
    of_three (first_of (codes "steps") rows) (first_of (codes "budget") rows) (first_of (codes "jobs") rows)

line_asks : (name_of : Word → Option Word) (rows : List Row) (s : Sorted) → Shows rows s → is_line (Some s) ≡ true
    → asked_of name_of (sorted_in rows) ≡ asked_of name_of s
line_asks name_of rows s h e =
    let line = and_parts (nat_eq (length s.plain) 2) _ e in
    let steps = and_parts (is_once s.options Setting.steps) _ line.1 in
    let budget = and_parts (is_once s.options Setting.budget) _ steps.1 in
    let jobs = and_parts (is_once s.options Setting.jobs) _ budget.1 in
    let values = values_in rows in
    let plain : (sorted_in rows).plain ≡ s.plain =
    ap₂ (λ a b. one_plain a ++ one_plain b) (shows_first rows s Key.command h) (shows_first rows s Key.operand h)
    ∙ two_plain s.plain line.0 in
    let of_steps : values_of Setting.steps (sorted_in rows).options ≡ values_of Setting.steps s.options =
    values.0 ∙ ap one_plain (shows_first rows s (Key.option Setting.steps) h) ∙ one_value _ (leb-true _ _ steps.0) in
    let of_budget : values_of Setting.budget (sorted_in rows).options ≡ values_of Setting.budget s.options =
    values.1 ∙ ap one_plain (shows_first rows s (Key.option Setting.budget) h) ∙ one_value _ (leb-true _ _ budget.0) in
    let of_jobs : values_of Setting.jobs (sorted_in rows).options ≡ values_of Setting.jobs s.options =
    values.2 ∙ ap one_plain (shows_first rows s (Key.option Setting.jobs) h) ∙ one_value _ (leb-true _ _ jobs.0) in
    λ i. whole (work_of name_of (plain i)) (given Setting.steps (of_steps i)) (given Setting.budget (of_budget i))
    (given Setting.jobs (of_jobs i))

-- ---- no line

given_twice : (o : Setting) (vs : List Word) → nat_le (length vs) 1 ≡ false → given o vs ≡ None
given_twice o [] e = absurd (true≢false e)
given_twice o (v ∷ []) e = absurd (true≢false e)
given_twice o (v ∷ w ∷ more) e = refl

no_work : (name_of : Word → Option Word) (ws : List Word) → nat_eq (length ws) 2 ≡ false → work_of name_of ws ≡ None
no_work name_of [] e = refl
no_work name_of (c ∷ []) e = refl
no_work name_of (c ∷ m ∷ []) e = absurd (true≢false e)
no_work name_of (c ∷ m ∷ x ∷ more) e = refl

no_steps : (w : Option Work) (b c : Option ℕ) → whole w None b c ≡ None
no_steps None b c = refl
no_steps (Some w) b c = refl

no_budget : (w : Option Work) (a c : Option ℕ) → whole w a None c ≡ None
no_budget None a c = refl
no_budget (Some w) None c = refl
no_budget (Some w) (Some a) c = refl

no_jobs : (w : Option Work) (a b : Option ℕ) → whole w a b None ≡ None
no_jobs None a b = refl
no_jobs (Some w) None b = refl
no_jobs (Some w) (Some a) None = refl
no_jobs (Some w) (Some a) (Some b) = refl

no_line_asks : (name_of : Word → Option Word) (o : Option Sorted) → is_line o ≡ false → (o >>= asked_of name_of) ≡ None
no_line_asks name_of None e = refl
no_line_asks name_of (Some s) e = elim (and_cases (nat_eq (length s.plain) 2) _ e) [
  | inl plain ↦ ap (λ w. whole w steps budget jobs) (no_work name_of s.plain plain)
  | inr twice ↦ elim (and_cases (is_once s.options Setting.steps) _ twice) [
    | inl a ↦ ap (λ g. whole work g budget jobs) (given_twice Setting.steps _ a) ∙ no_steps work budget jobs
    | inr others ↦ elim (and_cases (is_once s.options Setting.budget) _ others) [
      | inl b ↦ ap (λ g. whole work steps g jobs) (given_twice Setting.budget _ b) ∙ no_budget work steps jobs
      | inr last ↦ elim (and_cases (is_once s.options Setting.jobs) true last) [
        | inl c ↦ ap (λ g. whole work steps budget g) (given_twice Setting.jobs _ c) ∙ no_jobs work steps budget
        | inr never ↦ absurd (true≢false never)
      ]
    ]
  ]
]
  where
    work : Option Work
    work = work_of name_of s.plain

    steps : Option ℕ
    steps = given Setting.steps (values_of Setting.steps s.options)

    budget : Option ℕ
    budget = given Setting.budget (values_of Setting.budget s.options)

    jobs : Option ℕ
    jobs = given Setting.jobs (values_of Setting.jobs s.options)

-- ---- both

-- what matches ask for, where they are taken
abbrev asked_where : (Word → Option Word) → List Word → Bool → Option Asked
asked_where name_of ws taken = cond taken (Some (sorted_in (matches_of qtt_app ws))) None >>= asked_of name_of

asks_alike : (name_of : Word → Option Word) (ws : List Word) → AllByRecursion IsUtf8 ws
    → (sorted_by_clap ws >>= asked_of name_of) ≡ asked_in name_of ws
asks_alike name_of ws u = go (sorted ws) (is_line (sorted ws)) refl (lines_taken ws u) ((agrees ws u).shows)
  where
    go : (o : Option Sorted) (b : Bool) → is_line o ≡ b → is_empty (fault_of qtt_app ws) ≡ is_line o
        → (is_line o ≡ true → ShowsIn (matches_of qtt_app ws) o)
        → (sorted_by_clap ws >>= asked_of name_of) ≡ (o >>= asked_of name_of)
    go o false e taken shows = ap (asked_where name_of ws) (taken ∙ e) ∙ sym (no_line_asks name_of o e)
    go None true e taken shows = absurd (true≢false (sym e))
    go (Some s) true e taken shows =
        ap (asked_where name_of ws) (taken ∙ e) ∙ line_asks name_of (matches_of qtt_app ws) s (shows e) e

pub takes_lines : (words : List (String Global))
    → is_empty (fault_of qtt_app (map string_bytes words)) ≡ is_line (sorted (map string_bytes words))
takes_lines words = lines_taken (map string_bytes words) (texts words)

pub clap_asks : (name_of : Word → Option Word) (words : List (String Global))
    → (sorted_by_clap (map string_bytes words) >>= asked_of name_of) ≡ asked_in name_of (map string_bytes words)
clap_asks name_of words = asks_alike name_of (map string_bytes words) (texts words)

-- ---- the texts of arguments

given_one : (o : Setting) (x : Option Word) → given o (one_plain x) ≡ number_or (default o) (greatest o) x
given_one o None = refl
given_one o (Some v) = refl

abbrev in_order : Option ℕ → Option ℕ → Option ℕ → (ℕ → ℕ → ℕ → Option Asked) → Option Asked
in_order steps budget jobs rest = steps >>= (λ s. budget >>= (λ b. jobs >>= (λ j. rest s b j)))

nothing_in_order : (steps budget jobs : Option ℕ) → in_order steps budget jobs (λ s b j. None) ≡ None
nothing_in_order None b j = refl
nothing_in_order (Some s) None j = refl
nothing_in_order (Some s) (Some b) None = refl
nothing_in_order (Some s) (Some b) (Some j) = refl

work_last : (work : Option Work) (steps budget jobs : Option ℕ)
    → in_order steps budget jobs (λ s b j. work >>= (λ w. four w s b j)) ≡ whole work steps budget jobs
work_last None s b j = nothing_in_order s b j
work_last (Some w) s b j = refl

texts_ask : (name_of : Word → Option Word) (command operand : Option Word) (steps budget jobs : Option ℕ)
    → in_order steps budget jobs (λ s b j.
    command >>= (λ c. operand >>= (λ m. work_named name_of c m >>= (λ w. four w s b j))))
    ≡ whole (work_of name_of (one_plain command ++ one_plain operand)) steps budget jobs
texts_ask name_of None None s b j = nothing_in_order s b j
texts_ask name_of None (Some m) s b j = nothing_in_order s b j
texts_ask name_of (Some c) None s b j = nothing_in_order s b j
texts_ask name_of (Some c) (Some m) s b j = work_last (work_named name_of c m) s b j

rows_ask : (name_of : Word → Option Word) (rows : List Row)
    → asked_from name_of (λ id. first_of id rows) ≡ asked_of name_of (sorted_in rows)
rows_ask name_of rows =
    let values = values_in rows in
    let of_steps = ap (given Setting.steps) values.0 ∙ given_one Setting.steps (first_of (codes "steps") rows) in
    let of_budget = ap (given Setting.budget) values.1 ∙ given_one Setting.budget (first_of (codes "budget") rows) in
    let of_jobs = ap (given Setting.jobs) values.2 ∙ given_one Setting.jobs (first_of (codes "jobs") rows) in
    texts_ask name_of (first_of (codes "COMMAND") rows) (first_of (codes "MODULE") rows)
    (number_or (default Setting.steps) (greatest Setting.steps) (first_of (codes "steps") rows))
    (number_or (default Setting.budget) (greatest Setting.budget) (first_of (codes "budget") rows))
    (number_or (default Setting.jobs) (greatest Setting.jobs) (first_of (codes "jobs") rows))
    ∙ sym (λ i. whole (work_of name_of (sorted_in rows).plain) (of_steps i) (of_budget i) (of_jobs i))

pub matches_ask : (name_of : Word → Option Word) (f : Found) (rows : List Row) → rows_of f ≡ rows
    → asked_from name_of (first_value f) ≡ asked_of name_of (sorted_in rows)
matches_ask name_of f rows e = (λ i. asked_from name_of (λ id. same id i)) ∙ rows_ask name_of rows
  where
    same : (id : Word) → first_value f id ≡ first_of id rows
    same id = first_value-rows f id ∙ ap (first_of id) e

-- ---- what the code cites

pub taken : (words : List (String Global)) → fault_of qtt_app (map string_bytes words) ≡ []
    → asked_of module_name (sorted_in (matches_of qtt_app (map string_bytes words))) ≡ asked words
taken words e =
    sym (ap (λ f. asked_where module_name (map string_bytes words) (is_empty f)) e) ∙ clap_asks module_name words

pub refused : (words : List (String Global)) → is_empty (fault_of qtt_app (map string_bytes words)) ≡ false
    → asked words ≡ None
refused words e = sym (clap_asks module_name words) ∙ ap (asked_where module_name (map string_bytes words)) e
