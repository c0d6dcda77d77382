-- The judgement of a module's tree, whose names are looked up and whose implicit arguments are filled: its items in
-- turn, each over the environment that those before it make up.
use Rattle.std.specs.Prelude.{◌≡◌, ℕ, suc, ◌+◌, Bool, true, false, cond, List, [], ◌∷◌, ◌++◌, map, length, bytes_eq, codes, find, Option, Some, None, option_map}
use Rattle.std.specs.List.{filter}
use Rattle.qtt_base.specs.declared.place.GlobalId.{GlobalId}
use Rattle.qtt_base.specs.declared.place.ModuleId.{ModuleId}
use Rattle.qtt_base.specs.declared.place.Span.{Span}
use Rattle.qtt_base.specs.Limits.{standard}
use Rattle.qtt_syntax.specs.Tree.{Item}
use Rattle.qtt_term.specs.Signature.{definition_at}
use Rattle.qtt_term.specs.Environment.{part_of}
use Rattle.qtt_term.specs.Keyed.{is_of}
use Rattle.qtt_term.specs.Items.{FamilyEntry, DefinitionEntry}
use Rattle.qtt_term.specs.Ask.{Question, Ending, Ask, ◌>>=◌, within, Ends}
use Rattle.qtt_term.specs.FirstSpent.{FirstSpent}
use Rattle.qtt_term.specs.Scope.{name_of}
use Rattle.qtt_term.specs.Entries.{Entries, env, with_family, with_definition, with_body}
use Rattle.qtt_rules.specs.Refusal.{Cause, Place, Refusal, at}
use Rattle.qtt_rules.specs.Asks.{Asks, refuse}
use Rattle.qtt_split.specs.Node.{Clause}
use Rattle.qtt_split.specs.Group.{Defined}
use Rattle.qtt_holes.specs.Hole.{Hole}
use Rattle.qtt_module.specs.Families.{family, signature, labels}
use Rattle.qtt_module.specs.Main.{main}
use Rattle.qtt_module.specs.Declarations.{Declaration, declarations}
use Rattle.qtt_module.specs.Sides.{Given, group_of}
use Rattle.qtt_term.specs.declared.rule.Rule.TheVariants as rule

-- the module's number and name
pub record Home : Type 0 where
  pub id : ModuleId
  pub name : List ℕ

abbrev pub item_of : Home → ℕ → GlobalId
item_of M k = record { «module» = M.id; item = k }

-- ---- between two items
-- a signature that was judged
pub record Signed : Type 0 where
  pub id : GlobalId
  pub name : List ℕ
  pub place : Span
  -- the names of its written binders
  pub labels : List (Option (List ℕ))
  pub may_miss : Bool
  pub has_clauses : Bool

pub record Stage : Type 0 where
  pub globals : Entries
  -- the number of the next item
  pub next : ℕ
  -- in text order
  pub signed : List Signed
  pub holes : List Hole

abbrev pub start : Entries → Stage
start G = record { globals = G; next = 0; signed = []; holes = [] }

abbrev pub after_family : FamilyEntry → ℕ → Stage → Stage
after_family F n S = record {
  globals = with_family F S.globals;
  next = suc (n + S.next);
  signed = S.signed;
  holes = S.holes;
}

abbrev pub after_signature : DefinitionEntry → Signed → Stage → Stage
after_signature d x S = record {
  globals = with_definition d S.globals;
  next = suc S.next;
  signed = S.signed ++ (x ∷ []);
  holes = S.holes;
}

abbrev pub now_given : GlobalId → Given → Entries → Entries
now_given d (Given.body b) G = with_body d b G
now_given d (Given.holes hs) G = G

abbrev pub new_holes : Given → List Hole
new_holes (Given.body b) = []
new_holes (Given.holes hs) = hs

abbrev pub with_clauses : List ℕ → Signed → Signed
with_clauses n x = record {
  id = x.id;
  name = x.name;
  place = x.place;
  labels = x.labels;
  may_miss = x.may_miss;
  has_clauses = cond (bytes_eq n x.name) true x.has_clauses;
}

-- the body is set only now
abbrev pub after_group : List ℕ → GlobalId → Given → Stage → Stage
after_group n d x S = record {
  globals = now_given d x S.globals;
  next = S.next;
  signed = map (with_clauses n) S.signed;
  holes = S.holes ++ new_holes x;
}

-- ---- items
abbrev pub signed_as : List ℕ → List Signed → Option Signed
signed_as n = find (λ (x : Signed). bytes_eq x.name n)

abbrev pub defined : Stage → Signed → Clause → List Clause → Defined
defined S x c cs = record {
  group = record {
    globals = S.globals;
    part = part_of (definition_at (env S.globals) x.id).mult;
    clauses = c ∷ cs;
    first = c.span;
    limit = standard.leaves;
  };
  name = x.name;
  type = (definition_at (env S.globals) x.id).type;
  labels = x.labels;
  may_miss = x.may_miss;
}

abbrev pub group_for : Option Signed → Stage → List ℕ → Clause → List Clause → Asks Stage
group_for None S n c cs = refuse Cause.unread (at c.span rule.Clauses 1)
group_for (Some x) S n c cs = do
  g ← group_of (defined S x c cs)
  Ask.done (after_group n x.id g S)

-- a family, with its constructors behind it; a signature; a group of clauses, whose definition has its signature
-- earlier
unfoldable pub declare : Home → Stage → Declaration → Asks Stage
declare M S (Declaration.family n ps t cs) = do
  F ← family S.globals (item_of M S.next) M.name n ps t cs
  Ask.done (after_family F (length cs) S)
declare M S (Declaration.signature b q n s t) = do
  d ← signature S.globals (item_of M S.next) M.name n q t
  Ask.done (after_signature d (record {
    id = item_of M S.next;
    name = n;
    place = s;
    labels = map name_of (labels t);
    may_miss = b;
    has_clauses = false;
  }) S)
declare M S (Declaration.group n c cs) = group_for (signed_as n S.signed) S n c cs

-- ---- behind the last item: each signature has clauses (29)
abbrev pub clauses_number : ℕ
clauses_number = 18

abbrev pub first_bare : List Signed → Option Signed
first_bare = find (λ (x : Signed). cond x.has_clauses false true)

abbrev pub or_bare : Stage → Option Signed → Asks Stage
or_bare S None = Ask.done S
or_bare S (Some x) = refuse (Cause.no_clauses x.name) (at x.place rule.Clauses clauses_number)

abbrev pub all_have_clauses : Stage → Asks Stage
all_have_clauses S = or_bare S (first_bare S.signed)

-- ---- the whole, where each question has n contractions
unfoldable pub next : Ending Refusal Place Stage → (Stage → Ending Refusal Place Stage) → Ending Refusal Place Stage
next (Ending.ok S) k = k S
next (Ending.fails r) k = Ending.fails r
next (Ending.spent p q) k = Ending.spent p q

unfoldable pub in_turn : Home → ℕ → Stage → List Declaration → Ending Refusal Place Stage
in_turn M n S [] = within (env S.globals) n (all_have_clauses S)
in_turn M n S (d ∷ ds) = next (within (env S.globals) n (declare M S d)) (λ T. in_turn M n T ds)

-- the same without a bound
pub data InTurn (M : Home) : Stage → List Declaration → Ending Refusal Place Stage → Type 0 where
  last : {S : Stage} {e : Ending Refusal Place Stage} → Ends (env S.globals) (all_have_clauses S) e → InTurn M S [] e
  passes : {S T : Stage} {d : Declaration} {ds : List Declaration} {e : Ending Refusal Place Stage} →
      Ends (env S.globals) (declare M S d) (Ending.ok T) → InTurn M T ds e → InTurn M S (d ∷ ds) e
  stops : {S : Stage} {d : Declaration} {ds : List Declaration} {r : Refusal} →
      Ends (env S.globals) (declare M S d) (Ending.fails r) → InTurn M S (d ∷ ds) (Ending.fails r)

-- a question of these items is the first one that n contractions do not answer
pub data Spends (M : Home) (n : ℕ) : Stage → List Declaration → Place → Question → Type 0 where
  at_end : {S : Stage} {p : Place} {q : Question} → FirstSpent (env S.globals) n (all_have_clauses S) p q →
      Spends M n S [] p q
  here : {S : Stage} {d : Declaration} {ds : List Declaration} {p : Place} {q : Question} →
      FirstSpent (env S.globals) n (declare M S d) p q → Spends M n S (d ∷ ds) p q
  behind : {S T : Stage} {d : Declaration} {ds : List Declaration} {p : Place} {q : Question} →
      within (env S.globals) n (declare M S d) ≡ Ending.ok T → Spends M n T ds p q → Spends M n S (d ∷ ds) p q

-- ---- what is kept of an accepted module
-- the families and definitions of a module alone
abbrev pub part_at : ModuleId → Entries → Entries
part_at m G = record {
  families = filter (λ (F : FamilyEntry). is_of (Some m) F.id) G.families;
  definitions = filter (λ (d : DefinitionEntry). is_of (Some m) d.id) G.definitions;
}

pub record Checked : Type 0 where
  pub part : Entries
  -- how many
  pub definitions : ℕ
  -- in text order
  pub holes : List Hole
  -- the definition of this name
  pub main : Option GlobalId

abbrev pub checked : Home → Stage → Checked
checked M S = record {
  part = part_at M.id S.globals;
  definitions = length S.signed;
  holes = S.holes;
  main = option_map (λ (x : Signed). x.id) (signed_as (codes "main") S.signed);
}

abbrev pub as_checked : Home → Ending Refusal Place Stage → Ending Refusal Place Checked
as_checked M (Ending.ok S) = Ending.ok (checked M S)
as_checked M (Ending.fails r) = Ending.fails r
as_checked M (Ending.spent p q) = Ending.spent p q

-- over what its imports and Prim declare
abbrev pub module_within : Home → ℕ → Entries → List Item → Ending Refusal Place Checked
module_within M n G is = as_checked M (in_turn M n (start G) (declarations is))

pub record Accepts (M : Home) (G : Entries) (is : List Item) (C : Checked) : Type 0 where
  pub stage : Stage
  pub ends : InTurn M (start G) (declarations is) (Ending.ok stage)
  pub is_checked : checked M stage ≡ C

abbrev pub Refuses : Home → Entries → List Item → Refusal → Type 0
Refuses M G is r = InTurn M (start G) (declarations is) (Ending.fails r)

-- ---- the main of a root module whose header stands at s, over an environment that holds its part
abbrev pub check_main : Entries → Span → Checked → Asks GlobalId
check_main G s C = main G s C.main
