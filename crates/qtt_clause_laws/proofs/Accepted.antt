-- The clause laws of what is accepted.
use Rattle.std.proofs.Common.{◌≡◌, [], length, sym, subst}
use Rattle.qtt_usage.specs.Uses.{Use}
use Rattle.qtt_term.specs.Term.{Term, Terms, size, Def}
use Rattle.qtt_term.specs.Substitution.{sub, closed}
use Rattle.qtt_base.specs.declared.place.GlobalId.{GlobalId}
use Rattle.qtt_term.specs.Signature.{Tele, definition_at}
use Rattle.qtt_term.specs.Contraction.{BodiesClosed, Conv}
use Rattle.qtt_term.specs.Judgement.{Part, Typed}
use Rattle.qtt_term.specs.Environment.{HasPrim, ResultsCounted}
use Rattle.qtt_term.specs.Entries.{Entries, env}
use Rattle.qtt_confluence.proofs.Confluence.{conv-sub}
use Rattle.qtt_preserve.specs.Within.{Has}
use Rattle.qtt_preserve.proofs.Grow.{conv-grows}
use Rattle.qtt_preserve.proofs.Exact.{typed-has}
use Rattle.qtt_rules.specs.Judged.{Judges}
use Rattle.qtt_split.specs.Group.{Defined, body_of}
use Rattle.qtt_split.specs.Motive.{pis}
use Rattle.qtt_split.specs.Relation.{RightSides}
use Rattle.qtt_split.specs.Laws.{AllDeep, Unsolved, Reaches, applied_to, GoesOn, Replies, Elaborated, MadeBody}
use Rattle.qtt_clause_laws.specs.Larger.{Larger}
use Rattle.qtt_clause_laws.specs.Accepted.{Indexed, Takes, GoesOnAs, Defines, BodyGoesOn, AcceptedBody, AcceptedBodiesGoOn}
use Rattle.qtt_clause_laws.proofs.Answering.{Answering, unbounded, budgeted}
use Rattle.qtt_clause_laws.proofs.Whole.{plain-goes, typed-goes}
use Rattle.qtt_clause_laws.proofs.Bodies.{body-made, body-typed}
use Rattle.qtt_clause_laws.proofs.Indexed.{under-lams, tree-indexed, plain-tree}
use Rattle.qtt_clause_laws.proofs.Steps.{definition-step, applied-reaches}
use Rattle.qtt_clause_laws.proofs.Deciding.{follows-after}
use Rattle.qtt_clause_laws.proofs.Taken.{taken, applied-takes}
use Rattle.qtt_clause_laws.proofs.Larger.{in_environment, group-larger}

-- what the assembled tree does, the body does
goes-on : {says : Replies} {judge : Judges} {D : Defined} {body : Term} (M : MadeBody says judge D body) (L : Entries)
    (same : Term → Term → Type 0) (vs : Terms) →
    GoesOn same (Elaborated says judge D.group M.tree) (in_environment D L) M.opened M.tree M.sides vs →
    BodyGoesOn M L same vs
goes-on {D = D} M L same vs h = subst (λ b. GoesOnAs M L same (applied_to b M.opened.binders vs) vs) (sym M.is) h

accepted : (D : Defined) (W : Answering (env D.group.globals)) (judge : Judges) (body : Term) →
    ResultsCounted (env D.group.globals) → W.says (body_of judge D) body → AcceptedBody W.says judge D body
accepted D W judge body counted e =
    record {
      made = M;
      use_of_body = t.0;
      has_type = t.1;
      indexed = i;
      plain = λ un L l vs z d x. goes-on M L Unsolved vs
          (plain-goes S (in_environment D L) M.opened M.tree M.sides
          (group-larger S D L M.opened M.tree M.sides l i M.made) (plain-tree D.group.globals L M.tree i un) vs z d x);
      typed = λ L l prims bodies vs js d a h. goes-on M L (Conv (env L)) vs
          (typed-goes S (in_environment D L) M.opened M.tree M.sides prims bodies
          (group-larger S D L M.opened M.tree M.sides l i M.made) vs js d a h);
      at_its_type = at-its-type;
      applied = λ L l prims bodies d at Θ vs z h y C u k. an-application L l prims bodies d at Θ vs z h y C u k;
    }
  where
    M : MadeBody W.says judge D body
    M = body-made D W judge body e

    S : RightSides
    S = Elaborated W.says judge D.group M.tree

    t : (u : Use) × Typed (env D.group.globals) D.group.part [] body D.type u
    t = body-typed D W judge body counted e

    i : Indexed D.group.globals M.tree
    i = tree-indexed D.group.globals M.tree M.sides
        (under-lams M.opened.binders (record {
          part = D.group.part;
          context = [];
          type = D.type;
          use_of_term = t.0;
          has = subst (λ b. Has (env D.group.globals) D.group.part [] b D.type t.0) M.is (typed-has t.1);
        }))

    at-its-type : (L : Entries) → Larger D.group.globals L D.group.clauses → HasPrim (env L) → BodiesClosed (env L) →
        (vs : Terms) → size vs ≡ length M.opened.binders → AllDeep (env L) vs → Takes (env L) (sub closed D.type) vs →
        BodyGoesOn M L (Conv (env L)) vs
    at-its-type L l prims bodies vs z d h =
        let k = taken bodies M.opened.binders M.opened.goal closed h
        (conv-sub bodies (conv-grows l.grows M.opens) closed) z in
        goes-on M L (Conv (env L)) vs
        (typed-goes S (in_environment D L) M.opened M.tree M.sides prims bodies
        (group-larger S D L M.opened M.tree M.sides l i M.made) vs k.asked d k.args k.typed)

    an-application : (L : Entries) → Larger D.group.globals L D.group.clauses → HasPrim (env L) →
        BodiesClosed (env L) → (d : GlobalId) → Defines (env L) d D.type body → (Θ : Tele) (vs : Terms) →
        size vs ≡ length M.opened.binders → AllDeep (env L) vs → size vs ≡ length Θ → (C : Term) (u : Use) →
        Typed (env L) Part.run [] (applied_to (Def d) Θ vs) C u →
        GoesOnAs M L (Conv (env L)) (applied_to (Def d) Θ vs) vs
    an-application L l prims bodies d at Θ vs z h y C u k =
        let c : Conv (env L) (sub closed (definition_at (env L) d).type)
        (sub closed (pis M.opened.binders M.opened.goal)) =
        subst (λ A. Conv (env L) (sub closed A) (sub closed (pis M.opened.binders M.opened.goal))) (sym at.type)
        (conv-sub bodies (conv-grows l.grows M.opens) closed) in
        let r = applied-takes bodies M.opened.binders M.opened.goal Θ vs d C u c z y k in
        subst (λ t. GoesOnAs M L (Conv (env L)) t vs) (sym r.same)
        (follows-after (applied-reaches M.opened.binders vs
        (Reaches.by_step (definition-step (env L) d body at.body) Reaches.there))
        (at-its-type L l prims bodies vs z h (subst (λ A. Takes (env L) (sub closed A) vs) at.type r.takes)))

pub accepted_bodies_go_on_holds : AcceptedBodiesGoOn
accepted_bodies_go_on_holds = record {
  within_budget = λ judge D n body counted e. accepted D (budgeted (env D.group.globals) n) judge body counted e;
  without = λ judge D body counted e. accepted D (unbounded (env D.group.globals)) judge body counted e;
}
