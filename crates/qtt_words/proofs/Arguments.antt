-- The five arguments of the command line as the crate `clap` builds them, and one use of each.
use Rattle.std.proofs.Common.{◌≡◌, ◌∙◌, ◌&&◌, ◌||◌, Bool, true, false, cond, refl, ap, ap₂, arith, List, [], ◌∷◌, ◌++◌, append-nil, length, Option, Some, None, codes, eqb-true, true≢false}
use Rattle.std.specs.List.{fold, list_all}
use Rattle.std.specs.Str.{bytes_eq}
use Rattle.std.specs.Option.{option_map_or}
use Rattle.std.proofs.lemmas.Bool.{and_parts, or_parts, or_right}
use Rattle.clap.specs.Walk.{Held, Row, Rule, Text, arg_by_id, arg_by_long, at_row, default_rows, finished, has_row, is_empty, more_values, reading_by, settled_rows, used, used_by_id, with_default, without}
use Rattle.clap.specs.declared.builder.value_parser.Reading.{Reading}
use Rattle.clap.specs.Simple.{Shape, built, filled, with_index}
use Rattle.clap.specs.Faults.{defaults_fault, given_default_fault, settle_fault, use_fault}
use Rattle.clap.specs.Kinds.{Kinds, or_else}
use Rattle.clap.specs.Values.{reading_of}
use Rattle.clap.specs.declared.builder.value_parser.ValueParser.TheVariants as parser
use Rattle.clap.specs.declared.error.kind.ErrorKind.TheVariants as kind
use Rattle.clap.specs.declared.parser.matches.ValueSource.TheVariants.{CommandLine}
use Rattle.qtt_words.specs.Sorting.{Word, Setting, setting_named}
use Rattle.qtt_words.specs.Clap.{needed, with_long, qtt_app}

-- the first plain word, the second, and the options
pub data Key : Type 0 where
  command operand : Key
  option : Setting → Key

abbrev pub name_of : Setting → Word
name_of Setting.steps = codes "steps"
name_of Setting.budget = codes "budget"
name_of Setting.jobs = codes "jobs"

abbrev pub id_of : Key → Word
id_of Key.command = codes "COMMAND"
id_of Key.operand = codes "MODULE"
id_of (Key.option o) = name_of o

abbrev pub rule_of : Key → Rule
rule_of Key.command = with_index 1 (filled (needed (codes "COMMAND")))
rule_of Key.operand = with_index 2 (filled (needed (codes "MODULE")))
rule_of (Key.option o) = filled (with_long (name_of o))

abbrev pub shape : Shape
shape = (built qtt_app).top

abbrev pub rules : List Rule
rules = shape.rules

-- ---- the argument of an id, and of a name

pub by_id : (k : Key) → arg_by_id rules (id_of k) ≡ Some (rule_of k)
by_id Key.command = refl
by_id Key.operand = refl
by_id (Key.option Setting.steps) = refl
by_id (Key.option Setting.budget) = refl
by_id (Key.option Setting.jobs) = refl

abbrev pub rule_named : Option Setting → Option Rule
rule_named None = None
rule_named (Some o) = Some (rule_of (Key.option o))

pub by_name : (name : Word) → arg_by_long rules name ≡ rule_named (setting_named name)
by_name name = go (bytes_eq (codes "steps") name) (bytes_eq (codes "budget") name) (bytes_eq (codes "jobs") name)
  where
    some : Setting → Option Rule
    some o = Some (rule_of (Key.option o))

    go : (a b c : Bool)
        → cond (a || false) (some Setting.steps)
        (cond (b || false) (some Setting.budget) (cond (c || false) (some Setting.jobs) None))
        ≡ rule_named (cond a (Some Setting.steps) (cond b (Some Setting.budget) (cond c (Some Setting.jobs) None)))
    go true b c = refl
    go false true c = refl
    go false false true = refl
    go false false false = refl

-- ---- faults in turn

pub first_fails : (a b : Kinds) → is_empty a ≡ false → is_empty (or_else a b) ≡ false
first_fails [] b e = absurd (true≢false e)
first_fails (k ∷ ks) b e = e

pub or_nothing : (f : Kinds) → or_else f [] ≡ f
or_nothing [] = refl
or_nothing (k ∷ ks) = refl

-- ---- one use

-- what is found for an argument of this id with this value
abbrev pub row : Word → Word → Row
row id v = record {
  id = id;
  values = v ∷ [];
  count = None;
  source = Some CommandLine;
  reading = reading_of parser.String;
}

abbrev repeated : Bool → Kinds
repeated b = or_else (cond (b && true) (kind.ArgumentConflict ∷ []) []) []

-- the fault of a use with this value, and the rows after it
abbrev pub use_of : Key → Word → List Row → Kinds
use_of k v rows = use_fault false (rule_of k) (v ∷ []) rows

abbrev pub with_use : Key → Word → List Row → List Row
with_use k v rows = used (rule_of k) (v ∷ []) rows

pub used_first : (k : Key) (v : Word) (rows : List Row) → has_row (id_of k) rows ≡ false → use_of k v rows ≡ []
used_first Key.command v rows e = ap repeated e
used_first Key.operand v rows e = ap repeated e
used_first (Key.option o) v rows e = ap repeated e

pub used_again : (k : Key) (v : Word) (rows : List Row) → has_row (id_of k) rows ≡ true
    → is_empty (use_of k v rows) ≡ false
used_again Key.command v rows e = ap (λ b. is_empty (repeated b)) e
used_again Key.operand v rows e = ap (λ b. is_empty (repeated b)) e
used_again (Key.option o) v rows e = ap (λ b. is_empty (repeated b)) e

pub used_without : (k : Key) (rows : List Row) → is_empty (use_fault false (rule_of k) [] rows) ≡ false
used_without Key.command rows = refl
used_without Key.operand rows = refl
used_without (Key.option o) rows = refl

-- an id that no row has yet gets a row at the end
missing_row : (id : Word) (change : Row → List Row) (missing rows : List Row) → has_row id rows ≡ false
    → at_row id change missing rows ≡ rows ++ missing
missing_row id change missing [] e = refl
missing_row id change missing (r ∷ rs) e =
    let parts = or_parts (bytes_eq r.id id) (has_row id rs) e in
    ap (λ b. cond b (change r ++ rs) (r ∷ at_row id change missing rs)) parts.0
    ∙ ap (λ xs. r ∷ xs) (missing_row id change missing rs parts.1)

abbrev placed : Word → Word → List Row → List Row
placed id v rows = at_row id (more_values CommandLine (v ∷ [])) (row id v ∷ []) rows

placed_new : (id v : Word) (rows : List Row) → has_row id rows ≡ false
    → placed id v (without id rows) ≡ rows ++ row id v ∷ []
placed_new id v rows e =
    ap (placed id v) (missing_row id (λ _. []) [] rows e ∙ append-nil rows)
    ∙ missing_row id (more_values CommandLine (v ∷ [])) (row id v ∷ []) rows e

pub used_rows : (k : Key) (v : Word) (rows : List Row) → has_row (id_of k) rows ≡ false
    → with_use k v rows ≡ rows ++ row (id_of k) v ∷ []
used_rows Key.command v rows e = placed_new (codes "COMMAND") v rows e
used_rows Key.operand v rows e = placed_new (codes "MODULE") v rows e
used_rows (Key.option o) v rows e = placed_new (name_of o) v rows e

-- ---- what is pending

-- the id of an argument, and the values that it has so far
abbrev pub Pending : Type 0
Pending = Option (Text × List Text)

abbrev pub held : List Row → Pending → Held
held rows pending = record { rows = rows; pending = pending; skip = 0 }

-- the rows when what is pending is used
abbrev pub settled_by : Pending → List Row → List Row
settled_by pending rows = settled_rows rules pending rows

-- what is pending is at fault
abbrev pub Fails : List Row → Pending → Type 0
Fails rows pending = is_empty (settle_fault rules false (held rows pending)) ≡ false

pub settles : (k : Key) (vs : List Word) (rows : List Row)
    → settle_fault rules false (held rows (Some (id_of k, vs))) ≡ use_fault false (rule_of k) vs rows
settles k vs rows = ap (λ a. option_map_or (λ r. use_fault false r vs rows) a []) (by_id k)

pub settled_to : (k : Key) (vs : List Word) (rows : List Row)
    → settled_by (Some (id_of k, vs)) rows ≡ used (rule_of k) vs rows
settled_to k vs rows = ap (λ a. used_by_id a vs rows) (by_id k)

-- ---- no argument has a default

abbrev is_without_default : Rule → Bool
is_without_default a = is_empty a.defaults

default_keeps : (id : Word) (how : Reading) (rows : List Row) (defaults : List Word) → is_empty defaults ≡ true
    → cond (has_row id rows) rows (default_rows id how defaults rows) ≡ rows
default_keeps id how rows (v ∷ vs) e =
    let none : length (v ∷ vs) ≡ 0 = eqb-true _ _ e in
    absurd (omega arith)
default_keeps id how rows [] e = go (has_row id rows)
  where
    go : (b : Bool) → cond b rows rows ≡ rows
    go true = refl
    go false = refl

keeps_rows : (a : Rule) (rows : List Row) → is_without_default a ≡ true → with_default rows a ≡ rows
keeps_rows a rows e = default_keeps a.id (reading_by a) rows a.defaults e

no_default_faults : (rows : List Row) (args : List Rule) → list_all is_without_default args ≡ true
    → defaults_fault rows args ≡ []
unfolding defaults_fault
no_default_faults rows [] e = refl
no_default_faults rows (a ∷ more) e =
    let parts = and_parts (is_without_default a) (list_all is_without_default more) e in
    let none = or_right (has_row a.id rows) (is_empty a.defaults) parts.0 in
    ap₂ or_else (ap (λ b. cond b [] (given_default_fault a a.defaults)) none)
    (ap (λ xs. defaults_fault xs more) (keeps_rows a rows parts.0)) ∙ no_default_faults rows more parts.1

pub no_defaults : (rows : List Row) → defaults_fault rows rules ≡ []
no_defaults rows = no_default_faults rows rules refl

all_keep_rows : (rows : List Row) (args : List Rule) → list_all is_without_default args ≡ true
    → fold with_default rows args ≡ rows
all_keep_rows rows [] e = refl
all_keep_rows rows (a ∷ more) e =
    let parts = and_parts (is_without_default a) (list_all is_without_default more) e in
    ap (λ xs. fold with_default xs more) (keeps_rows a rows parts.0) ∙ all_keep_rows rows more parts.1

pub finished_is : (h : Held) → finished rules h ≡ settled_by h.pending h.rows
finished_is h = all_keep_rows _ rules refl
