-- The clauses of a definition, whose body is put into the environment.
use Rattle.std.specs.Prelude.{◌≡◌, ℕ, List, map, Result, MatchResult}
use Rattle.std.specs.Global.{Vec}
use Rattle.qtt_base.specs.declared.place.GlobalId.{GlobalId}
use Rattle.qtt_syntax.specs.declared.module.Clause as code_clause
use Rattle.qtt_term.specs.Term.{Term}
use Rattle.qtt_term.specs.Signature.{definition_at}
use Rattle.qtt_term.specs.Environment.{part_of}
use Rattle.qtt_term.specs.Judgement.{Part}
use Rattle.qtt_term.specs.Entries.{Entries, env}
use Rattle.qtt_term.specs.Scope.{name_of}
use Rattle.qtt_rules.specs.declared.errors.ElabError.{ElabError}
use Rattle.qtt_bidi.specs.Answers.{Reaches, Refuses}
use Rattle.qtt_split.specs.Group.{Defined}
use Rattle.qtt_split.specs.Planned.{group_with}
use Rattle.qtt_holes.specs.declared.hole.Hole as code_hole
use Rattle.qtt_holes.specs.Hole.{Hole}
use Rattle.qtt_holes.specs.View.{hole}
use Rattle.qtt_module.specs.declared.signed.Signed as code_signed
use Rattle.qtt_module.specs.Module.{Signed, now_given, new_holes}
use Rattle.qtt_module.specs.Sides.{Given, group_of}

abbrev pub signed_of : code_signed.Signed → Signed
signed_of x = record {
  id = x.id;
  name = x.name;
  place = x.place;
  labels = map name_of x.labels.items;
  may_miss = x.may_miss;
  has_clauses = x.has_clauses;
}

-- the definition by these clauses, in this part and of this type
abbrev pub by_clauses : Entries → Part → Term → Signed → List code_clause.Clause → Defined
by_clauses G p A x cs =
    record { group = group_with G p cs; name = x.name; type = A; labels = x.labels; may_miss = x.may_miss }

-- as the environment has its signature
abbrev pub of_clauses : Entries → Signed → List code_clause.Clause → Defined
of_clauses G x cs =
    by_clauses G (part_of (definition_at (env G) x.id).mult) (definition_at (env G) x.id).type x cs

-- over G the group gives a body, which is put there, or holes
pub record HasBody (G H : Entries) (n : ℕ) (D : Defined) (d : GlobalId) (hs : List Hole) : Type 0 where
  pub given : Given
  pub reaches : Reaches (env G) n (group_of D) given
  pub stands : H ≡ now_given d given G
  pub holes : hs ≡ new_holes given

-- or it ends as the refusal says
abbrev pub GivesBody : Entries → Entries → ℕ → Defined → GlobalId → Result (Vec code_hole.Hole) ElabError → Type 0
GivesBody G H n D d result =
    MatchResult result (λ hs. HasBody G H n D d (map hole hs.items)) (λ e. Refuses (env G) n (group_of D) e)
