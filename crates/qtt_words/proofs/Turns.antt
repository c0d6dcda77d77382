-- One word of the walk of the crate `clap` over the command line: whether it has a fault, and where the walk stands
-- after it.
use Rattle.std.proofs.Common.{◌≡◌, ◌∙◌, ◌==◌, ◌&&◌, ℕ, Bool, true, false, cond, refl, ap, ap₂, List, [], ◌∷◌, Option, Some, None}
use Rattle.std.specs.Option.{option_map_or}
use Rattle.std.specs.Str.{bytes_eq}
use Rattle.std.proofs.lemmas.Bool.{and_right}
use Rattle.clap.specs.Lexer.{long_of}
use Rattle.clap.specs.Walk.{Held, Outcome, Row, Rule, Step, Waiting, Walk, after_flag, after_step, idle, is_empty, is_pending, long_met, long_or_other, option, option_met, plain_word, positional, pushed, settled, short_or_plain, subcommand_met, subcommand_or_other, trailing, value, walked, word_met}
use Rattle.clap.specs.Faults.{bundle_fault, flag_word_fault, long_fault, option_fault, other_fault, positional_fault, settle_fault, step_fault, stray_fault, turn_fault, word_fault}
use Rattle.clap.specs.Kinds.{Kinds, or_else}
use Rattle.qtt_words.specs.Sorting.{Word, Setting}
use Rattle.qtt_words.proofs.Arguments.{Fails, Key, Pending, first_fails, held, id_of, name_of, or_nothing, rule_of, rules, settled_by, shape, use_of, with_use}
use Rattle.qtt_words.proofs.Words.{IsOption, IsPlainWord, IsRefused, dashes}

-- where the walk stands: what waits, the rows, what is pending, the place of the next plain word, and whether `--`
-- came
abbrev pub standing : Waiting → List Row → Pending → ℕ → Bool → Walk
standing waiting rows pending n ended =
    record { held = held rows pending; waiting = waiting; position = n; is_trailing = ended; stopped = None }

abbrev pub turn : Walk → Word → Kinds
turn w v = turn_fault shape [] w v

abbrev pub after : Walk → Word → Walk
after w v = walked rules [] w v

no_subcommand : (waiting : Waiting) (v : Word) → subcommand_met [] waiting v ≡ None
no_subcommand idle v = refl
no_subcommand (option id) v = refl
no_subcommand positional v = refl

-- ---- before `--`

module _ (waiting : Waiting) (rows : List Row) (pending : Pending) (n : ℕ) (v : Word) where
  abbrev here : Walk
  here = standing waiting rows pending n false

  abbrev behind_end : Held × Step
  behind_end = (held rows pending, trailing n)

  -- the fault of the word itself, and what it is
  abbrev fault_at : Kinds
  fault_at = word_fault shape [] false waiting v (held rows pending)

  abbrev met_at : Held × Step
  met_at = word_met rules [] false waiting n v (held rows pending)

  turn_by : (f : Kinds) (m : Held × Step) → fault_at ≡ f → met_at ≡ m
      → turn here v ≡ or_else f (step_fault shape n m.0 m.1)
  turn_by f m e g = ap₂ (λ (x : Kinds) (y : Held × Step). or_else x (step_fault shape n y.0 y.1)) e g

  after_by : (m : Held × Step) → met_at ≡ m → after here v ≡ after_step rules v here m.0 m.1
  unfolding walked
  after_by m g = ap (λ (y : Held × Step). after_step rules v here y.0 y.1) g

  -- the word is `--`, or is not
  fault_of_end : (b : Bool) → bytes_eq v dashes ≡ b
      → fault_at ≡ cond b [] (flag_word_fault rules false (long_of v) v (held rows pending))
  fault_of_end b e =
      ap (λ o. other_fault shape o v (held rows pending)) (no_subcommand waiting v)
      ∙ ap (λ b. cond b [] (flag_word_fault rules false (long_of v) v (held rows pending))) e

  met_of_end : (b : Bool) → bytes_eq v dashes ≡ b
      → met_at ≡ cond b behind_end (long_or_other rules waiting v (long_of v) (held rows pending))
  met_of_end b e =
      ap (λ o. subcommand_or_other rules o waiting n v (held rows pending)) (no_subcommand waiting v)
      ∙ ap (λ b. cond b behind_end (long_or_other rules waiting v (long_of v) (held rows pending))) e

  pub end_turn : bytes_eq v dashes ≡ true → turn here v ≡ []
  end_turn e = turn_by [] behind_end (fault_of_end true e) (met_of_end true e)

  pub after_end : bytes_eq v dashes ≡ true → after here v ≡ standing waiting rows pending n true
  after_end e = after_by behind_end (met_of_end true e)

  pub refused_turn : IsRefused v → is_empty (turn here v) ≡ false
  refused_turn i = ap is_empty (turn_by _ met_at (fault_of_end false i.no_end ∙ i.fault rows pending) refl)

  -- an option
  abbrev option_at : Setting → Option Word → Held × Outcome
  option_at o x = option_met rules (rule_of (Key.option o)) x (held rows pending)

  option_fault_is : (o : Setting) (x : Option Word) → IsOption v o x
      → fault_at ≡ option_fault rules false (rule_of (Key.option o)) x (held rows pending)
  option_fault_is o x i =
      fault_of_end false i.no_end ∙ ap (λ l. flag_word_fault rules false l v (held rows pending)) i.long
      ∙ ap (λ a. long_fault rules false a x (held rows pending)) i.argument

  option_met_is : (o : Setting) (x : Option Word) → IsOption v o x
      → met_at ≡ after_flag rules waiting v (option_at o x).0 (option_at o x).1
  option_met_is o x i =
      met_of_end false i.no_end ∙ ap (λ l. long_or_other rules waiting v l (held rows pending)) i.long
      ∙ ap (λ a. met_by (long_met rules a x (held rows pending))) i.argument
    where
      met_by : Held × Outcome → Held × Step
      met_by m = after_flag rules waiting v m.0 m.1

  -- what is pending comes first, and then the use
  pub waits_turn : (o : Setting) → IsOption v o None → turn here v ≡ settle_fault rules false (held rows pending)
  waits_turn o i = turn_by _ _ (option_fault_is o None i) (option_met_is o None i) ∙ or_nothing _

  pub after_waits : (o : Setting) → IsOption v o None
      → after here v ≡ standing (option (name_of o)) (settled_by pending rows) (Some (name_of o, [])) n false
  after_waits o i = after_by _ (option_met_is o None i)

  pub has_turn : (o : Setting) (x : Word) → IsOption v o (Some x)
      → turn here v
      ≡ or_else (settle_fault rules false (held rows pending)) (use_of (Key.option o) x (settled_by pending rows))
  has_turn o x i = turn_by _ _ (option_fault_is o (Some x) i) (option_met_is o (Some x) i) ∙ or_nothing _

  pub after_has : (o : Setting) (x : Word) → IsOption v o (Some x)
      → after here v ≡ standing idle (with_use (Key.option o) x (settled_by pending rows)) None n false
  after_has o x i = after_by _ (option_met_is o (Some x) i)

  pub option_turn : (o : Setting) (x : Option Word) → IsOption v o x → Fails rows pending
      → is_empty (turn here v) ≡ false
  option_turn o None i e = ap is_empty (waits_turn o i) ∙ e
  option_turn o (Some x) i e = ap is_empty (has_turn o x i) ∙ first_fails _ _ e

  -- a plain word
  abbrev plain_at : Held × Step
  plain_at = plain_word rules waiting v (held rows pending)

  plain_fault : IsPlainWord v → fault_at ≡ []
  plain_fault i =
      fault_of_end false i.no_end ∙ ap (λ l. flag_word_fault rules false l v (held rows pending)) i.no_long
      ∙ ap (λ s. option_map_or (λ flags. bundle_fault rules false flags (held rows pending)) s []) i.no_short

  plain_met : IsPlainWord v → met_at ≡ plain_at
  plain_met i =
      met_of_end false i.no_end ∙ ap (λ l. long_or_other rules waiting v l (held rows pending)) i.no_long
      ∙ ap (λ s. short_or_plain rules waiting v s (held rows pending)) i.no_short

  pub plain_turn : IsPlainWord v → turn here v ≡ step_fault shape n plain_at.0 plain_at.1
  plain_turn i = turn_by [] plain_at (plain_fault i) (plain_met i)

  pub after_plain : IsPlainWord v → after here v ≡ after_step rules v here plain_at.0 plain_at.1
  after_plain i = after_by plain_at (plain_met i)

-- a plain word is the value of an option that waits
value_met : (o : Setting) (rows : List Row) (v : Word)
    → plain_word rules (option (name_of o)) v (held rows (Some (name_of o, [])))
    ≡ (held rows (Some (name_of o, v ∷ [])), Step.next idle)
value_met Setting.steps rows v = refl
value_met Setting.budget rows v = refl
value_met Setting.jobs rows v = refl

-- where an option waits for its value
abbrev pub waiting_for : Setting → List Row → ℕ → Walk
waiting_for o rows n = standing (option (name_of o)) rows (Some (name_of o, [])) n false

pub value_turn : (o : Setting) (rows : List Row) (n : ℕ) (v : Word) → IsPlainWord v → turn (waiting_for o rows n) v ≡ []
value_turn o rows n v i =
    plain_turn (option (name_of o)) rows (Some (name_of o, [])) n v i
    ∙ ap (λ (m : Held × Step). step_fault shape n m.0 m.1) (value_met o rows v)

pub after_value : (o : Setting) (rows : List Row) (n : ℕ) (v : Word) → IsPlainWord v
    → after (waiting_for o rows n) v ≡ standing idle rows (Some (name_of o, v ∷ [])) n false
after_value o rows n v i =
    after_plain (option (name_of o)) rows (Some (name_of o, [])) n v i
    ∙ ap (λ (m : Held × Step). after_step rules v (waiting_for o rows n) m.0 m.1) (value_met o rows v)

-- ---- behind `--` each word is plain

pub trailing_turn : (waiting : Waiting) (rows : List Row) (pending : Pending) (n : ℕ) (v : Word)
    → turn (standing waiting rows pending n true) v ≡ step_fault shape n (held rows pending) value
trailing_turn waiting rows pending n v = refl

pub after_trailing : (waiting : Waiting) (rows : List Row) (pending : Pending) (n : ℕ) (v : Word)
    → after (standing waiting rows pending n true) v
    ≡ after_step rules v (standing waiting rows pending n true) (held rows pending) value
unfolding walked
after_trailing waiting rows pending n v = refl

-- ---- a plain word goes to a place

module _ (rows : List Row) (pending : Pending) where
  abbrev at_place : Rule → Kinds
  at_place a = positional_fault rules false a (held rows pending)

  -- what is pending takes one value only
  not_several : (k : Key) → (is_pending (rule_of k) pending && false) ≡ false
  not_several k = and_right (is_pending (rule_of k) pending) false refl

  pub command_fault : step_fault shape 1 (held rows pending) value ≡ settle_fault rules false (held rows pending)
  command_fault = ap (λ b. cond b [] (settle_fault rules false (held rows pending))) (not_several Key.command)

  pub operand_fault : step_fault shape 2 (held rows pending) value ≡ settle_fault rules false (held rows pending)
  operand_fault = ap (λ b. cond b [] (settle_fault rules false (held rows pending))) (not_several Key.operand)

  -- whatever the place, what is pending comes first
  pub step_fails : (n : ℕ) → Fails rows pending → is_empty (step_fault shape n (held rows pending) value) ≡ false
  step_fails n e = go (1 == n) (2 == n)
    where
      place : Bool → Bool → Option Rule
      place a b = cond a (Some (rule_of Key.command)) (cond b (Some (rule_of Key.operand)) None)

      go : (a b : Bool) → is_empty (option_map_or at_place (place a b) (stray_fault shape)) ≡ false
      go true b = ap is_empty command_fault ∙ e
      go false true = ap is_empty operand_fault ∙ e
      go false false = refl

  abbrev pushed_on : Key → Word → ℕ → Bool → Bool → Walk
  pushed_on k v n ended several = record {
    held = pushed (id_of k) v (cond several (held rows pending) (settled rules (held rows pending)));
    waiting = idle;
    position = n;
    is_trailing = ended;
    stopped = None;
  }

  pub after_command : (v : Word) (ended : Bool)
      → after_step rules v (standing idle rows pending 1 ended) (held rows pending) value
      ≡ standing idle (settled_by pending rows) (Some (id_of Key.command, v ∷ [])) 2 ended
  after_command v true = ap (pushed_on Key.command v 2 true) (not_several Key.command)
  after_command v false = ap (pushed_on Key.command v 2 false) (not_several Key.command)

  pub after_operand : (v : Word) (ended : Bool)
      → after_step rules v (standing idle rows pending 2 ended) (held rows pending) value
      ≡ standing idle (settled_by pending rows) (Some (id_of Key.operand, v ∷ [])) 3 ended
  after_operand v true = ap (pushed_on Key.operand v 3 true) (not_several Key.operand)
  after_operand v false = ap (pushed_on Key.operand v 3 false) (not_several Key.operand)
