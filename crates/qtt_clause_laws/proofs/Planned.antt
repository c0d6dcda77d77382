-- What is planned is made by the relation.
use Rattle.std.proofs.Common.{◌≡◌, ℕ, zero, suc, List, [], ◌∷◌, length, Option, Some, refl, sym, ap, subst, arith}
use Rattle.std.proofs.lemmas.Bool.{eqb-true}
use Rattle.qtt_base.specs.declared.place.Span.{Span}
use Rattle.qtt_term.specs.Term.{Term, Terms, ε, Pi}
use Rattle.qtt_term.specs.Signature.{Env}
use Rattle.qtt_term.specs.Contraction.{Conv}
use Rattle.qtt_term.specs.Judgement.{Ctx, ext}
use Rattle.qtt_term.specs.Ask.{Ending, Ends}
use Rattle.qtt_term.specs.Entries.{env}
use Rattle.qtt_term.specs.Forms.{Function, as_function}
use Rattle.qtt_term.proofs.Options.{some-injective}
use Rattle.qtt_confluence.specs.Injective as injective
use Rattle.qtt_confluence.proofs.Confluence.{conv-inside}
use Rattle.qtt_unify.proofs.Endings.{parts, ended}
use Rattle.qtt_split.specs.Tree.{Leaf, leaves}
use Rattle.qtt_split.specs.Motive.{pis}
use Rattle.qtt_split.specs.Node.{Clause, all_constructors}
use Rattle.qtt_split.specs.Split.{Group}
use Rattle.qtt_split.specs.Plan.{width, so_wide, Opened, opened, start, leaf_of, Planned, plan}
use Rattle.qtt_split.specs.Relation.{Made}
use Rattle.qtt_split.specs.Laws.{AllWide}
use Rattle.qtt_split.proofs.Counting.{decide_less}
use Rattle.qtt_split.proofs.Splits.{start_less}
use Rattle.qtt_clause_laws.specs.Planned.{right_sides, MadePlan, PlansAreMade}
use Rattle.qtt_clause_laws.proofs.Asked.{head-asked, needed, found-is}
use Rattle.qtt_clause_laws.proofs.Answering.{within-ends}
use Rattle.qtt_clause_laws.proofs.Grown.{SidesOf, grow-made}

pub all-wide : {E : Env} (k : ℕ) (cs : List Clause) (u : Unit {0}) → Ends E (so_wide k cs) (Ending.ok u) → AllWide k cs
all-wide k [] u e = tt
all-wide k (c ∷ cs) u e =
    let a = parts _ _ u e in
    (eqb-true (length c.patterns) k (needed _ _ _ a.mid a.first), all-wide k cs u a.after)

-- ---- the opened binders
function-is : (h : Term) (F : Function) → as_function h ≡ Some F → h ≡ Pi F.mult F.domain F.codomain
function-is (Pi q A B) F e = ap (λ (F : Function). Pi F.mult F.domain F.codomain) (some-injective e)
function-is _ F e = absurd (cc e)

pub record OpenedAs (E : Env) (k : ℕ) (A : Term) (O : Opened) : Type 0 where
  pub count : length O.binders ≡ k
  pub conv : Conv E A (pis O.binders O.goal)

pub opened-as : {E : Env} (s : Span) (k : ℕ) (Γ : Ctx) (A : Term) (O : Opened) → Ends E (opened s k Γ A) (Ending.ok O) →
    OpenedAs E k A O
opened-as {E} s zero Γ A O e = subst (OpenedAs E zero A) (ended _ O e) (record { count = refl; conv = Conv.same })
opened-as {E} s (suc k) Γ A O e =
    let a = parts _ _ O e in
    let b = parts _ _ O a.after in
    let c = parts _ _ O b.after in
    let r = opened-as s k _ _ c.mid c.first in
    let h : a.mid ≡ Pi b.mid.mult b.mid.domain b.mid.codomain =
    function-is a.mid b.mid (found-is _ _ _ b.mid b.first) in
    subst (OpenedAs E (suc k) A) (ended _ O c.after)
    (record {
      count = ap suc r.count;
      conv = Conv.thence (subst (Conv E A) h (head-asked _ _ A a.mid a.first))
          (conv-inside (injective.Convs.more Conv.same (injective.Convs.more r.conv injective.Convs.none)));
    })

-- ---- whatever right sides of leaves are asked for
pub record MadeOf (G : Group) (A : Term) (labels : List (Option (List ℕ))) (P : Planned) : Type 1 where
  pub opened : Opened
  pub is : P.opened ≡ opened.binders
  pub opens : Conv (env G.globals) A (pis opened.binders opened.goal)
  pub wide : AllWide (length opened.binders) G.clauses
  pub made : (R : Leaf → Term → Type 0) (ts : Terms) → SidesOf R (leaves P.tree) ts ε →
      Made G.globals (λ N r t. R (leaf_of G N r) t) (start G labels opened) P.tree ts ε

pub plan-made : (G : Group) (A : Term) (labels : List (Option (List ℕ))) (P : Planned) →
    Ends (env G.globals) (plan G A labels) (Ending.ok P) → MadeOf G A labels P
unfolding plan
plan-made G A labels P e =
    let E : Env = env G.globals in
    let a = parts (so_wide (width G.clauses) G.clauses) _ P e in
    let b = parts _ _ P a.after in
    let c = parts (opened G.first (width G.clauses) [] A) _ P b.after in
    let d = parts _ _ P c.after in
    let r = opened-as G.first (width G.clauses) [] A c.mid c.first in
    let less = decide_less G.globals (start G labels c.mid).rows in
    let first = start_less (ext [] c.mid.binders) 0 G.clauses in
    subst (MadeOf G A labels) (ended _ P d.after)
    (record {
      opened = c.mid;
      is = refl;
      opens = r.conv;
      wide = subst (λ k. AllWide k G.clauses) (sym r.count) (all-wide (width G.clauses) G.clauses a.mid a.first);
      made = λ R ts k. grow-made G R (all_constructors G.clauses) (start G labels c.mid) G.limit d.mid (omega arith)
          d.first
          ts ε k;
    })

-- ---- right sides that a function gives
pub given-sides : (f : Leaf → Term) (ls : List Leaf) (rest : Terms) →
    SidesOf (λ l t. t ≡ f l) ls (right_sides f ls rest) rest
given-sides f [] rest = SidesOf.none
given-sides f (l ∷ ls) rest = SidesOf.more refl (given-sides f ls rest)

made-plan : (G : Group) (A : Term) (labels : List (Option (List ℕ))) (P : Planned) →
    Ends (env G.globals) (plan G A labels) (Ending.ok P) → MadePlan G A labels P
made-plan G A labels P e =
    let M = plan-made G A labels P e in
    record {
      opened = M.opened;
      is = M.is;
      opens = M.opens;
      wide = M.wide;
      made = λ f. M.made (λ l t. t ≡ f l) (right_sides f (leaves P.tree) ε) (given-sides f (leaves P.tree) ε);
    }

pub plans_are_made_holds : PlansAreMade
plans_are_made_holds = record {
  within_budget = λ G A labels n P e. made-plan G A labels P (within-ends (env G.globals) n (plan G A labels) P e);
  without = λ G A labels P e. made-plan G A labels P e;
}
