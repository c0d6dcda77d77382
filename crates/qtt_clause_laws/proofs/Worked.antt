-- Two vectors are appended, and a place is solved, as the clause law says.
use Rattle.std.proofs.Common.{ℕ, zero, suc, pos, refl}
use Rattle.qtt_usage.specs.Mult.{𝟘, 𝟙, ω}
use Rattle.qtt_term.specs.Term.{ε, ◌▸◌, Sort, Def, IntLit}
use Rattle.qtt_term.specs.Substitution.{sub, closed}
use Rattle.qtt_term.specs.Signature.{IntTy}
use Rattle.qtt_term.specs.Contraction.{contract, BodiesClosed, Conv}
use Rattle.qtt_term.specs.Judgement.{Part}
use Rattle.qtt_term.specs.Environment.{HasPrim, ResultsCounted}
use Rattle.qtt_term.specs.Entries.{env}
use Rattle.qtt_term.specs.Value.{Value, Values}
use Rattle.qtt_term.specs.Question.{same_form}
use Rattle.qtt_term.specs.Ask.{◌>>=◌, on_head, on_answer, within}
use Rattle.qtt_term.specs.Premises.{need}
use Rattle.qtt_term.specs.Infer as core
use Rattle.qtt_term.specs.Programs.{item, nat, z, s, plus}
use Rattle.qtt_term.specs.Vectors.{vect, append_type, append_body}
use Rattle.qtt_split.specs.Fragment.{fragment}
use Rattle.qtt_split.specs.Programs.{append_items, append_clauses, append_defined, pair_type, ix_items, keeps_defined}
use Rattle.qtt_split.specs.Laws.{Deep, AllDeep, Reaches, applied_to}
use Rattle.qtt_split.specs.Rows.{append_binders}
use Rattle.qtt_split.proofs.Rows.{body_rows_hold}
use Rattle.qtt_clause_laws.specs.Accepted.{Takes}
use Rattle.qtt_clause_laws.specs.Worked.{with_append, vector_of, two_vectors, AppendWorked, number, other, two_and_one, SolvedWorked}
use Rattle.qtt_clause_laws.proofs.Environments.{entries-closed, entries-counted, HasType, has-type}
use Rattle.qtt_clause_laws.proofs.Growing.{environments_are_larger}
use Rattle.qtt_clause_laws.proofs.Accepted.{accepted_bodies_go_on_holds}

-- ---- the environment of append
prims : HasPrim (env with_append)
prims = record { units = refl; truths = refl; lines = refl; equalities = refl }

bodies : BodiesClosed (env with_append)
bodies = entries-closed with_append refl

counted : ResultsCounted (env append_items)
counted = entries-counted append_items refl

counted-then : ResultsCounted (env with_append)
counted-then = entries-counted with_append refl

-- ---- the values
typed-values : HasType with_append Part.erased IntTy (Sort 0) × HasType with_append Part.erased (s z) nat
    × HasType with_append Part.run (vector_of 5) (vect IntTy (s z)) ×
    HasType with_append Part.run (vector_of 6) (vect IntTy (s z))
unfolding contract same_form ◌>>=◌ on_head on_answer within need core.agree core.sort_of core.function_of
    core.family_of core.unbound
typed-values = (
  has-type with_append counted-then Part.erased 0 IntTy (Sort 0) refl,
  has-type with_append counted-then Part.erased 0 (s z) nat refl,
  has-type with_append counted-then Part.run 0 (vector_of 5) (vect IntTy (s z)) refl,
  has-type with_append counted-then Part.run 0 (vector_of 6) (vect IntTy (s z)) refl,
)

takes : Takes (env with_append) (sub closed append_type) two_vectors
takes =
    Takes.more {q = 𝟘} Conv.same typed-values.0.typed
    (Takes.more {q = 𝟘} Conv.same typed-values.1.typed
    (Takes.more {q = 𝟘} Conv.same typed-values.1.typed
    (Takes.more {q = 𝟙} Conv.same typed-values.2.typed
    (Takes.more {q = 𝟙} Conv.same typed-values.3.typed Takes.none))))

zero-deep : Deep (env with_append) z
zero-deep = Deep.whole (Value.con Values.none) AllDeep.none

one-deep : Deep (env with_append) (s z)
one-deep = Deep.whole (Value.con (Values.many (Value.con Values.none) Values.none))
    (AllDeep.more zero-deep AllDeep.none)

int-deep : Deep (env with_append) IntTy
int-deep = Deep.plain Value.prim_ty (λ f c k ts e. cc e)

literal-deep : (n : ℕ) → Deep (env with_append) (IntLit (pos n))
literal-deep n = Deep.plain Value.lit (λ f c k ts e. cc e)

vector-deep : (n : ℕ) → Deep (env with_append) (vector_of n)
vector-deep n =
    Deep.whole
    (Value.con (Values.kept_one (Values.kept_one (Values.one Value.lit
    (Values.one (Value.con (Values.kept_one Values.none)) Values.none)))))
    (AllDeep.more zero-deep (AllDeep.more (literal-deep n)
    (AllDeep.more (Deep.whole (Value.con (Values.kept_one Values.none)) AllDeep.none) AllDeep.none)))

deep : AllDeep (env with_append) two_vectors
deep =
    AllDeep.more int-deep (AllDeep.more one-deep (AllDeep.more one-deep (AllDeep.more (vector-deep 5)
    (AllDeep.more (vector-deep 6) AllDeep.none))))

append-typed : HasType with_append Part.run (applied_to (Def (item 7)) append_binders two_vectors)
    (vect IntTy (plus (s z) (s z)))
unfolding contract same_form ◌>>=◌ on_head on_answer within need core.agree core.sort_of core.function_of
    core.family_of core.unbound
append-typed = has-type with_append counted-then Part.run 0 (applied_to (Def (item 7)) append_binders two_vectors)
    (vect IntTy (plus (s z) (s z))) refl

-- ---- the law
pub append_worked : AppendWorked
unfolding contract
append_worked =
    let L = accepted_bodies_go_on_holds.within_budget (fragment append_items) append_defined 100 _ counted
    body_rows_hold.of_append in
    let more = environments_are_larger.body_added append_items (item 7) append_body append_clauses refl in
    record {
      accepted = body_rows_hold.of_append;
      laws = L;
      deep = deep;
      takes = takes;
      fits = refl;
      parts = refl;
      goes_on = L.at_its_type with_append more prims bodies two_vectors L.made.made.wide.0 deep takes;
      applied = L.applied with_append more prims bodies (item 7) (record { type = refl; body = refl }) append_binders
          two_vectors L.made.made.wide.0 deep refl _ _ append-typed.typed;
      reaches =
          Reaches.by_step refl (Reaches.by_step refl (Reaches.by_step refl (Reaches.by_step refl (Reaches.by_step refl
          (Reaches.by_step refl (Reaches.by_step refl Reaches.there))))));
    }

-- ---- a solved place
ix-counted : ResultsCounted (env ix_items)
ix-counted = entries-counted ix_items refl

two-typed : HasType ix_items Part.run two_and_one pair_type
unfolding contract same_form ◌>>=◌ on_head on_answer within need core.agree core.sort_of core.function_of
    core.family_of core.unbound
two-typed = has-type ix_items ix-counted Part.run 100 two_and_one pair_type refl

number-deep : (n : ℕ) → Deep (env ix_items) (number n) × Value (env ix_items) (number n)
number-deep zero = (Deep.whole (Value.con Values.none) AllDeep.none, Value.con Values.none)
number-deep (suc n) =
    let h = number-deep n in
    let v : Value (env ix_items) (number (suc n)) = Value.con (Values.many h.1 Values.none) in
    (Deep.whole v (AllDeep.more h.0 AllDeep.none), v)

two-deep : AllDeep (env ix_items) (two_and_one ▸ ε)
two-deep =
    let other : Value (env ix_items) (other (s z)) = Value.con (Values.many (number-deep 1).1 Values.none) in
    AllDeep.more (Deep.whole (Value.con (Values.many (number-deep 2).1 (Values.many other Values.none)))
    (AllDeep.more (number-deep 2).0
    (AllDeep.more (Deep.whole other (AllDeep.more (number-deep 1).0 AllDeep.none)) AllDeep.none)))
    AllDeep.none

pub solved_worked : SolvedWorked
unfolding contract
solved_worked =
    let L = accepted_bodies_go_on_holds.within_budget (fragment ix_items) keeps_defined 100 _ ix-counted
    body_rows_hold.solved_place in
    record {
      accepted = body_rows_hold.solved_place;
      laws = L;
      deep = two-deep;
      takes = Takes.more {q = ω} Conv.same two-typed.typed Takes.none;
      fits = refl;
      goes_on = L.at_its_type ix_items (environments_are_larger.itself ix_items keeps_defined.group.clauses)
          (record { units = refl; truths = refl; lines = refl; equalities = refl }) (entries-closed ix_items refl)
          (two_and_one ▸ ε) L.made.made.wide.0 two-deep (Takes.more {q = ω} Conv.same two-typed.typed Takes.none);
      reaches = Reaches.by_step refl (Reaches.by_step refl (Reaches.by_step refl Reaches.there));
    }
