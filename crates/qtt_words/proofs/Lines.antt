-- The walk of the crate `clap` over all words: it ends without a fault exactly in the lines, with rows that say the
-- same.
use Rattle.std.proofs.Common.{◌≡◌, ◌∙◌, ◌≤◌, ◌||◌, ℕ, suc, Bool, true, false, cond, not, refl, sym, ap, ap₂, subst, arith, List, [], ◌∷◌, ◌++◌, length, slice_get, is_some, nat_eq, Option, Some, None, option_map, true≢false}
use Rattle.std.specs.List.{AllByRecursion, fold}
use Rattle.std.specs.Str.{IsUtf8, bytes_eq}
use Rattle.clap.specs.Walk.{Held, Row, Waiting, Walk, finished, has_row, idle, is_empty, option, settled, walked}
use Rattle.clap.specs.Faults.{check_fault, defaults_fault, settle_fault, walk_fault}
use Rattle.clap.specs.Kinds.{Kinds, or_else}
use Rattle.clap.specs.declared.error.kind.ErrorKind.TheVariants as kind
use Rattle.qtt_words.specs.Sorting.{Word, Setting, Sort, Sorted, by_sort, is_line, is_plain, only_plain, sorted, value_first, with_option}
use Rattle.qtt_words.proofs.Arguments.{Fails, Key, Pending, finished_is, first_fails, held, id_of, name_of, no_defaults, rules, settled_by, settled_to, settles, shape, use_of, used_again, used_first, used_rows, used_without, with_use}
use Rattle.qtt_words.proofs.Standing.{Says, Shows, and_option, says_first, says_option, says_second, shown, shows_given, shows_more, shows_row}
use Rattle.qtt_words.proofs.Words.{IsOption, IsPlainWord, IsRefused, Kind, dashes, kind_of}
use Rattle.qtt_words.proofs.Turns.{after, after_command, after_end, after_has, after_operand, after_plain, after_trailing, after_value, after_waits, command_fault, end_turn, has_turn, operand_fault, option_turn, plain_turn, refused_turn, standing, step_fails, trailing_turn, turn, value_turn, waiting_for, waits_turn}
use Rattle.qtt_words.proofs.Joined.{IsFine, fine_line, fine_option, fine_plain, joined, joined-nothing, joined-with_option, joined-with_plain, no_line_three, no_line_twice}

-- what is at fault behind the last word
abbrev pub last_fault : Held → Kinds
last_fault h =
    or_else (settle_fault rules false h)
    (or_else (defaults_fault (settled rules h).rows rules) (check_fault shape (finished rules h) false))

abbrev pub faults : Walk → List Word → Kinds
faults w ws = or_else (walk_fault shape [] w ws) (last_fault (fold (walked rules []) w ws).held)

abbrev pub last_rows : Walk → List Word → List Row
last_rows w ws = finished rules (fold (walked rules []) w ws).held

abbrev pub ShowsIn : List Row → Option Sorted → Type 0
ShowsIn rows None = ⊥
ShowsIn rows (Some s) = Shows rows s

-- from here on there is no fault exactly where the sorted words are a line, and then the rows say what they say
pub record Agrees (w : Walk) (ws : List Word) (o : Option Sorted) : Type 0 where
  pub without_fault : is_empty (faults w ws) ≡ is_line o
  pub shows : is_line o ≡ true → ShowsIn (last_rows w ws) o

neither : (w : Walk) (ws : List Word) (o : Option Sorted) → is_empty (faults w ws) ≡ false → is_line o ≡ false
    → Agrees w ws o
neither w ws o e f = record { without_fault = e ∙ sym f; shows = λ t. absurd (true≢false (sym t ∙ f)) }

-- ---- one word more

stops : (w : Walk) (v : Word) (ws : List Word) → is_empty (turn w v) ≡ false → is_empty (faults w (v ∷ ws)) ≡ false
unfolding walk_fault
stops w v ws e =
    first_fails (or_else (turn w v) (walk_fault shape [] (after w v) ws))
    (last_fault (fold (walked rules []) (after w v) ws).held)
    (first_fails (turn w v) (walk_fault shape [] (after w v) ws) e)

passes : (w next : Walk) (v : Word) (ws : List Word) → turn w v ≡ [] → after w v ≡ next
    → faults w (v ∷ ws) ≡ faults next ws
unfolding walk_fault
passes w next v ws e same =
    let last = last_fault (fold (walked rules []) (after w v) ws).held in
    ap (λ (f : Kinds). or_else (or_else f (walk_fault shape [] (after w v) ws)) last) e
    ∙ ap (λ (x : Walk). faults x ws) same

goes_on : (w next : Walk) (v : Word) (ws : List Word) (o : Option Sorted) → turn w v ≡ [] → after w v ≡ next
    → Agrees next ws o → Agrees w (v ∷ ws) o
goes_on w next v ws o e same a = record {
  without_fault = ap is_empty (passes w next v ws e same) ∙ a.without_fault;
  shows = λ t. subst (λ (x : Walk). ShowsIn (last_rows x ws) o) (sym same) (a.shows t);
}

-- ---- what is pending is at fault

module _ (waiting : Waiting) (rows : List Row) (pending : Pending) (n : ℕ) where
  fails_at_end : (ended : Bool) → Fails rows pending
      → is_empty (faults (standing waiting rows pending n ended) []) ≡ false
  unfolding walk_fault
  fails_at_end ended e = first_fails (settle_fault rules false (held rows pending)) _ e

  fails_trailing : (ws : List Word) → Fails rows pending
      → is_empty (faults (standing waiting rows pending n true) ws) ≡ false
  fails_trailing [] e = fails_at_end true e
  fails_trailing (v ∷ ws) e =
      stops (standing waiting rows pending n true) v ws
      (ap is_empty (trailing_turn waiting rows pending n v) ∙ step_fails rows pending n e)

  module _ (v : Word) (ws : List Word) where
    abbrev faults_here : Kinds
    faults_here = faults (standing waiting rows pending n false) (v ∷ ws)

    option_stops : (o : Setting) (x : Option Word) → IsOption v o x → Fails rows pending → is_empty faults_here ≡ false
    option_stops o x i e =
        stops (standing waiting rows pending n false) v ws (option_turn waiting rows pending n v o x i e)

    refused_stops : IsRefused v → is_empty faults_here ≡ false
    refused_stops i = stops (standing waiting rows pending n false) v ws (refused_turn waiting rows pending n v i)

    end_passes : bytes_eq v dashes ≡ true → faults_here ≡ faults (standing waiting rows pending n true) ws
    end_passes e =
        passes (standing waiting rows pending n false) (standing waiting rows pending n true) v ws
        (end_turn waiting rows pending n v e) (after_end waiting rows pending n v e)

fails_idle : (rows : List Row) (pending : Pending) (n : ℕ) (ws : List Word) → AllByRecursion IsUtf8 ws
    → Fails rows pending
    → is_empty (faults (standing idle rows pending n false) ws) ≡ false
fails_idle rows pending n [] texts e = fails_at_end idle rows pending n false e
fails_idle rows pending n (v ∷ ws) texts e = go (kind_of v texts.0)
  where
    go : Kind v → is_empty (faults (standing idle rows pending n false) (v ∷ ws)) ≡ false
    go (Kind.ends d s) = ap is_empty (end_passes idle rows pending n v ws d) ∙ fails_trailing idle rows pending n ws e
    go (Kind.waits o i s) = option_stops idle rows pending n v ws o None i e
    go (Kind.has o x i s) = option_stops idle rows pending n v ws o (Some x) i e
    go (Kind.unknown i s) = refused_stops idle rows pending n v ws i
    go (Kind.plain i s) =
        stops (standing idle rows pending n false) v ws
        (ap is_empty (plain_turn idle rows pending n v i) ∙ step_fails rows pending n e)

-- ---- what is pending passes

-- the rows, and the use that is pending, say what the sorted words say
pub record IsStanding (rows : List Row) (pending : Pending) (s : Sorted) : Type 0 where
  pub passes : settle_fault rules false (held rows pending) ≡ []
  pub shows : Shows (settled_by pending rows) s
  pub fine : IsFine s

no_row : (rows : List Row) (s : Sorted) (k : Key) → Shows rows s → shown k s ≡ None → has_row (id_of k) rows ≡ false
no_row rows s k h none = shows_row rows s k h ∙ ap is_some none

a_row : (rows : List Row) (s : Sorted) (k : Key) (x : Word) → Shows rows s → shown k s ≡ Some x
    → has_row (id_of k) rows ≡ true
a_row rows s k x h some = shows_row rows s k h ∙ ap is_some some

module _ (k : Key) (v : Word) (rows : List Row) (s t : Sorted) where
  use_shows : Shows rows s → shown k s ≡ None → Says k v s t → Shows (with_use k v rows) t
  use_shows h none says =
      subst (λ (r : List Row). Shows r t) (sym (used_rows k v rows (no_row rows s k h none)))
      (shows_more k v rows s t h says)

  -- one use more is pending, or done
  uses : Shows rows s → shown k s ≡ None → Says k v s t → IsFine t → IsStanding rows (Some (id_of k, v ∷ [])) t
  uses h none says fine = record {
    passes = settles k (v ∷ []) rows ∙ used_first k v rows (no_row rows s k h none);
    shows = subst (λ (r : List Row). Shows r t) (sym (settled_to k (v ∷ []) rows)) (use_shows h none says);
    fine = fine;
  }

  used_up : Shows rows s → shown k s ≡ None → Says k v s t → IsFine t → IsStanding (with_use k v rows) None t
  used_up h none says fine = record { passes = refl; shows = use_shows h none says; fine = fine }

abbrev pub parts : List Word → List (Setting × Word) → Sorted
parts plain options = record { plain = plain; options = options }

uses_command : (v : Word) (rows : List Row) (options : List (Setting × Word)) → Shows rows (parts [] options)
    → IsFine (parts [] options) → IsStanding rows (Some (id_of Key.command, v ∷ [])) (parts (v ∷ []) options)
uses_command v rows options h fine =
    uses Key.command v rows _ _ h refl (says_first v options) (fine_plain (parts [] options) v fine (omega arith))

uses_operand : (c v : Word) (rows : List Row) (options : List (Setting × Word)) → Shows rows (parts (c ∷ []) options)
    → IsFine (parts (c ∷ []) options) → IsStanding rows (Some (id_of Key.operand, v ∷ [])) (parts (c ∷ v ∷ []) options)
uses_operand c v rows options h fine =
    uses Key.operand v rows _ _ h refl (says_second c v options)
    (fine_plain (parts (c ∷ []) options) v fine (omega arith))

-- ---- behind the last word

-- a plain word is missing
abbrev lacks_one : Bool → Bool → Kinds
lacks_one command operand = cond (not command || (not operand || false)) (kind.MissingRequiredArgument ∷ []) []

both_there : (plain : List Word) → length plain ≤ 2
    → is_empty (lacks_one (is_some (slice_get plain 0)) (is_some (slice_get plain 1))) ≡ nat_eq (length plain) 2
both_there [] few = refl
both_there (c ∷ []) few = refl
both_there (c ∷ m ∷ []) few = refl
both_there (c ∷ m ∷ x ∷ more) few = absurd (omega arith)

checks : (rows : List Row) (s : Sorted) → Shows rows s → IsFine s
    → is_empty (check_fault shape rows false) ≡ nat_eq (length s.plain) 2
checks rows s h fine =
    ap₂ (λ (a b : Bool). is_empty (lacks_one a b)) (shows_given rows s Key.command h) (shows_given rows s Key.operand h)
    ∙ both_there s.plain fine.plain

finish : (rows : List Row) (pending : Pending) (s : Sorted) (n : ℕ) (ended : Bool) → IsStanding rows pending s
    → Agrees (standing idle rows pending n ended) [] (Some s)
unfolding walk_fault
finish rows pending s n ended st =
    let last = finished rules (held rows pending) in
    let same : Shows last s = subst (λ (r : List Row). Shows r s) (sym (finished_is (held rows pending))) st.shows in
    record {
      without_fault =
          ap₂ (λ (a b : Kinds). is_empty (or_else a (or_else b (check_fault shape last false))))
          st.passes (no_defaults _)
          ∙ checks last s same st.fine ∙ sym (fine_line s st.fine);
      shows = λ e. same;
    }

-- ---- behind `--`

trailing_agrees : (ws plain : List Word) (options : List (Setting × Word)) (rows : List Row) (pending : Pending)
    → IsStanding rows pending (parts plain options)
    → Agrees (standing idle rows pending (suc (length plain)) true) ws
    (option_map (joined (parts plain options)) (Some (only_plain ws)))
trailing_agrees [] plain options rows pending st =
    subst (λ (s : Sorted). Agrees (standing idle rows pending (suc (length plain)) true) [] (Some s))
    (sym (joined-nothing (parts plain options))) (finish rows pending (parts plain options) _ true st)
trailing_agrees (v ∷ ws) [] options rows pending st =
    goes_on _ _ v ws _
    (trailing_turn idle rows pending 1 v ∙ command_fault rows pending ∙ st.passes)
    (after_trailing idle rows pending 1 v ∙ after_command rows pending v true)
    (trailing_agrees ws (v ∷ []) options _ _ (uses_command v _ options st.shows st.fine))
trailing_agrees (v ∷ ws) (c ∷ []) options rows pending st =
    goes_on _ _ v ws _
    (trailing_turn idle rows pending 2 v ∙ operand_fault rows pending ∙ st.passes)
    (after_trailing idle rows pending 2 v ∙ after_operand rows pending v true)
    (trailing_agrees ws (c ∷ v ∷ []) options _ _ (uses_operand c v _ options st.shows st.fine))
trailing_agrees (v ∷ ws) (c ∷ m ∷ []) options rows pending st =
    neither _ _ _
    (stops (standing idle rows pending 3 true) v ws (ap is_empty (trailing_turn idle rows pending 3 v)))
    (no_line_three (parts (c ∷ m ∷ v ∷ []) options) (Some (only_plain ws)) (omega arith))
trailing_agrees (v ∷ ws) (c ∷ m ∷ x ∷ more) options rows pending st =
    let few = st.fine.plain in
    absurd (omega arith)

-- ---- before `--`

-- the walk stands behind words that have no fault and are sorted, with this outcome
abbrev AgreesFrom : List Word → (Sorted → Option Sorted) → Type 0
AgreesFrom ws outcome =
    (plain : List Word) (options : List (Setting × Word)) (rows : List Row) (pending : Pending)
    → IsStanding rows pending (parts plain options)
    → Agrees (standing idle rows pending (suc (length plain)) false) ws (outcome (parts plain options))

abbrev Runs : List Word → Type 0
Runs ws = AgreesFrom ws (λ s. option_map (joined s) (sorted ws))

-- the same where an option waits for its value
abbrev AgreesWaiting : Setting → List Word → (Sorted → Option Sorted) → Type 0
AgreesWaiting o ws outcome =
    (plain : List Word) (options : List (Setting × Word)) (rows : List Row)
    → Shows rows (parts plain options) → IsFine (parts plain options)
    → Agrees (waiting_for o rows (suc (length plain))) ws (outcome (parts plain options))

abbrev RunsWaiting : Setting → List Word → Type 0
RunsWaiting o ws = AgreesWaiting o ws (λ s. option_map (joined s) (value_first o ws))

module _ (v : Word) (ws : List Word) (behind : Runs ws) where
  abbrev AgreesAs : Sort → Type 0
  AgreesAs k = AgreesFrom (v ∷ ws) (λ s. option_map (joined s) (by_sort k v ws (sorted ws) (λ o. value_first o ws)))

  at_end : bytes_eq v dashes ≡ true → AgreesAs Sort.ends
  at_end e plain options rows pending st =
      goes_on _ _ v ws _ (end_turn idle rows pending _ v e) (after_end idle rows pending _ v e)
      (trailing_agrees ws plain options rows pending st)

  at_waiting : (o : Setting) → IsOption v o None → RunsWaiting o ws → AgreesAs (Sort.waits o)
  at_waiting o i waiting plain options rows pending st =
      goes_on _ _ v ws _ (waits_turn idle rows pending _ v o i ∙ st.passes) (after_waits idle rows pending _ v o i)
      (waiting plain options (settled_by pending rows) st.shows st.fine)

  at_option : (o : Setting) (x : Word) → IsOption v o (Some x) → AgreesAs (Sort.has o x)
  at_option o x i plain options rows pending st =
      subst (Agrees (standing idle rows pending (suc (length plain)) false) (v ∷ ws))
      (sym (joined-with_option (parts plain options) o x (sorted ws))) (go (shown (Key.option o) s) refl)
    where
      s : Sorted
      s = parts plain options

      before : List Row
      before = settled_by pending rows

      now : turn (standing idle rows pending (suc (length plain)) false) v
          ≡ use_of (Key.option o) x (settled_by pending rows)
      now =
          has_turn idle rows pending (suc (length plain)) v o x i
          ∙ ap (λ (f : Kinds). or_else f (use_of (Key.option o) x (settled_by pending rows))) st.passes

      go : (y : Option Word) → shown (Key.option o) (parts plain options) ≡ y
          → Agrees (standing idle rows pending (suc (length plain)) false) (v ∷ ws)
          (option_map (joined (and_option (parts plain options) o x)) (sorted ws))
      go None none =
          goes_on _ _ v ws _
          (now ∙ used_first (Key.option o) x before (no_row before s (Key.option o) st.shows none))
          (after_has idle rows pending (suc (length plain)) v o x i)
          (behind plain (options ++ (o, x) ∷ []) _ None
          (used_up (Key.option o) x before s (and_option s o x) st.shows none (says_option s o x)
          (fine_option s o x st.fine none)))
      go (Some y) some =
          neither _ _ _
          (stops (standing idle rows pending (suc (length plain)) false) v ws
          (ap is_empty now ∙ used_again (Key.option o) x before (a_row before s (Key.option o) y st.shows some)))
          (no_line_twice s o x y (sorted ws) some)

  at_unknown : IsRefused v → AgreesAs Sort.unknown
  at_unknown i plain options rows pending st = neither _ _ _ (refused_stops idle rows pending _ v ws i) refl

  at_plain : IsPlainWord v → AgreesAs Sort.plain
  at_plain i [] options rows pending st =
      subst (Agrees (standing idle rows pending 1 false) (v ∷ ws))
      (sym (joined-with_plain (parts [] options) v (sorted ws)))
      (goes_on _ _ v ws _
      (plain_turn idle rows pending 1 v i ∙ command_fault rows pending ∙ st.passes)
      (after_plain idle rows pending 1 v i ∙ after_command rows pending v false)
      (behind (v ∷ []) options _ _ (uses_command v _ options st.shows st.fine)))
  at_plain i (c ∷ []) options rows pending st =
      subst (Agrees (standing idle rows pending 2 false) (v ∷ ws))
      (sym (joined-with_plain (parts (c ∷ []) options) v (sorted ws)))
      (goes_on _ _ v ws _
      (plain_turn idle rows pending 2 v i ∙ operand_fault rows pending ∙ st.passes)
      (after_plain idle rows pending 2 v i ∙ after_operand rows pending v false)
      (behind (c ∷ v ∷ []) options _ _ (uses_operand c v _ options st.shows st.fine)))
  at_plain i (c ∷ m ∷ []) options rows pending st =
      neither _ _ _
      (stops (standing idle rows pending 3 false) v ws (ap is_empty (plain_turn idle rows pending 3 v i)))
      (ap is_line (joined-with_plain (parts (c ∷ m ∷ []) options) v (sorted ws))
      ∙ no_line_three (parts (c ∷ m ∷ v ∷ []) options) (sorted ws) (omega arith))
  at_plain i (c ∷ m ∷ x ∷ more) options rows pending st =
      let few = st.fine.plain in
      absurd (omega arith)

  by_kind : Kind v → ((o : Setting) → RunsWaiting o ws) → Runs (v ∷ ws)
  by_kind (Kind.ends e s) waiting = subst AgreesAs (sym s) (at_end e)
  by_kind (Kind.waits o i s) waiting = subst AgreesAs (sym s) (at_waiting o i (waiting o))
  by_kind (Kind.has o x i s) waiting = subst AgreesAs (sym s) (at_option o x i)
  by_kind (Kind.unknown i s) waiting = subst AgreesAs (sym s) (at_unknown i)
  by_kind (Kind.plain i s) waiting = subst AgreesAs (sym s) (at_plain i)

  -- where an option waits
  module _ (o : Setting) where
    abbrev as_value : Bool → Option Sorted
    as_value plain = cond plain (option_map (with_option o v) (sorted ws)) None

    abbrev AgreesAsValue : Sort → Type 0
    AgreesAsValue k = AgreesWaiting o (v ∷ ws) (λ s. option_map (joined s) (as_value (is_plain k)))

    lacks : (rows : List Row) → Fails rows (Some (name_of o, []))
    lacks rows = ap is_empty (settles (Key.option o) [] rows) ∙ used_without (Key.option o) rows

    has_value : AllByRecursion IsUtf8 ws → IsPlainWord v → AgreesAsValue Sort.plain
    has_value texts i plain options rows h fine =
        subst (Agrees (waiting_for o rows (suc (length plain))) (v ∷ ws))
        (sym (joined-with_option (parts plain options) o v (sorted ws))) (go (shown (Key.option o) s) refl)
      where
        s : Sorted
        s = parts plain options

        n : ℕ
        n = suc (length plain)

        go : (y : Option Word) → shown (Key.option o) (parts plain options) ≡ y
            → Agrees (waiting_for o rows (suc (length plain))) (v ∷ ws)
            (option_map (joined (and_option (parts plain options) o v)) (sorted ws))
        go None none =
            goes_on _ _ v ws _ (value_turn o rows n v i) (after_value o rows n v i)
            (behind plain (options ++ (o, v) ∷ []) rows (Some (name_of o, v ∷ []))
            (uses (Key.option o) v rows s (and_option s o v) h none (says_option s o v) (fine_option s o v fine none)))
        go (Some y) some =
            neither _ _ _
            (ap is_empty (passes _ _ v ws (value_turn o rows n v i) (after_value o rows n v i))
            ∙ fails_idle rows (Some (name_of o, v ∷ [])) n ws texts
            (ap is_empty (settles (Key.option o) (v ∷ []) rows)
            ∙ used_again (Key.option o) v rows (a_row rows s (Key.option o) y h some)))
            (no_line_twice s o v y (sorted ws) some)

    no_value : (k : Sort) → is_plain k ≡ false
        → ((rows : List Row) (n : ℕ) → is_empty (faults (waiting_for o rows n) (v ∷ ws)) ≡ false) → AgreesAsValue k
    no_value k e f plain options rows h fine =
        neither _ _ _ (f rows (suc (length plain)))
        (ap (λ b. is_line (option_map (joined (parts plain options)) (as_value b))) e)

    waiting_by_kind : AllByRecursion IsUtf8 ws → Kind v → RunsWaiting o (v ∷ ws)
    waiting_by_kind texts (Kind.ends e s) =
        subst AgreesAsValue (sym s) (no_value Sort.ends refl (λ rows n.
        ap is_empty (end_passes (option (name_of o)) rows (Some (name_of o, [])) n v ws e)
        ∙ fails_trailing (option (name_of o)) rows (Some (name_of o, [])) n ws (lacks rows)))
    waiting_by_kind texts (Kind.waits j i s) =
        subst AgreesAsValue (sym s) (no_value (Sort.waits j) refl (λ rows n.
        option_stops (option (name_of o)) rows (Some (name_of o, [])) n v ws j None i (lacks rows)))
    waiting_by_kind texts (Kind.has j x i s) =
        subst AgreesAsValue (sym s) (no_value (Sort.has j x) refl (λ rows n.
        option_stops (option (name_of o)) rows (Some (name_of o, [])) n v ws j (Some x) i (lacks rows)))
    waiting_by_kind texts (Kind.unknown i s) =
        subst AgreesAsValue (sym s) (no_value Sort.unknown refl (λ rows n.
        refused_stops (option (name_of o)) rows (Some (name_of o, [])) n v ws i))
    waiting_by_kind texts (Kind.plain i s) = subst AgreesAsValue (sym s) (has_value texts i)

mutual
  pub runs : (ws : List Word) → AllByRecursion IsUtf8 ws → Runs ws
  runs [] texts = λ plain options rows pending st.
      subst (λ (s : Sorted). Agrees (standing idle rows pending (suc (length plain)) false) [] (Some s))
      (sym (joined-nothing (parts plain options))) (finish rows pending (parts plain options) _ false st)
  runs (v ∷ ws) texts = by_kind v ws (runs ws texts.1) (kind_of v texts.0) (λ o. runs_waiting o ws texts.1)

  runs_waiting : (o : Setting) (ws : List Word) → AllByRecursion IsUtf8 ws → RunsWaiting o ws
  runs_waiting o [] texts = λ plain options rows h fine.
      neither _ _ _
      (fails_at_end (option (name_of o)) rows (Some (name_of o, [])) (suc (length plain)) false
      (ap is_empty (settles (Key.option o) [] rows) ∙ used_without (Key.option o) rows)) refl
  runs_waiting o (v ∷ ws) texts = waiting_by_kind v ws (runs ws texts.1) o texts.1 (kind_of v texts.0)
