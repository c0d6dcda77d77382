-- No hole occurs in what is derived.
use Rattle.std.proofs.Common.{◌≡◌, ℕ, Option, Some}
use Rattle.qtt_usage.specs.declared.mult.Mult.{Mult}
use Rattle.qtt_syntax.specs.declared.expr.Local.{Local}
use Rattle.qtt_syntax.specs.Tree.{Tree, Annotation, Arguments, Binder, Binders, Statement, Statements}
use Rattle.qtt_syntax.specs.Tree.Tree.{name, number, text, universe, hole, the, apply, pi, lambda, letting, doing}
use Rattle.qtt_term.specs.Term.{Term}
use Rattle.qtt_term.specs.Signature.{Tele}
use Rattle.qtt_term.specs.Judgement.{Part}
use Rattle.qtt_term.specs.Entries.{Entries}
use Rattle.qtt_term.specs.Scope.{Scope}
use Rattle.qtt_rules.specs.Judged.{Judged, Mode}
use Rattle.qtt_term.proofs.Options.{none≢some}
use Rattle.qtt_bidi.specs.Meaning.{Meaning, exact}
use Rattle.qtt_bidi.specs.Elaboration.{Classified, Given}
use Rattle.qtt_bidi.specs.Rules.{Calls, Acts, Found, Elaborates, IsType, Checked, Applied, FoundLambda, CheckedLambda, Agrees, Valued, Runs}
use Rattle.qtt_bidi.specs.Holes.{NoHole, NoHoleInAnnotation, NoHoleInArguments, NoHoleInBinder, NoHoleInBinders, NoHoleInStatement, NoHoleInStatements}
use Rattle.qtt_bidi.specs.Laws.{DerivedHasNoHole}

module _ (G : Entries) where
  -- what names something is a name
  exact-holeless : (f : Tree) (m : Meaning) → exact G f ≡ Some m → NoHole f
  exact-holeless (name n) m e = tt
  exact-holeless (number z s) m e = absurd (none≢some e)
  exact-holeless (text v s) m e = absurd (none≢some e)
  exact-holeless (universe l r s) m e = absurd (none≢some e)
  exact-holeless (hole n s) m e = absurd (none≢some e)
  exact-holeless (the A e s) m x = absurd (none≢some x)
  exact-holeless (apply f es s) m e = absurd (none≢some e)
  exact-holeless (pi k q x A B s) m e = absurd (none≢some e)
  exact-holeless (lambda bs e s) m x = absurd (none≢some x)
  exact-holeless (letting q x A e b s) m y = absurd (none≢some y)
  exact-holeless (doing ss s) m e = absurd (none≢some e)

  calls-holeless : {e : Tree} {m : Meaning} {es : Arguments} → Calls G e m es → NoHoleInArguments es → NoHole e
  calls-holeless (Calls.alone t k) h = tt
  calls-holeless (Calls.to_arguments {f = f} {m = m} x) h = (exact-holeless f m x, h)

  acts-holeless : {st : Statement} {x : Option Local} {e : Tree} → Acts st x e → NoHole e → NoHoleInStatement st
  acts-holeless Acts.binds h = h
  acts-holeless Acts.runs h = h

  mutual
    found-holeless : {p : Part} {S : Scope} {e : Tree} {j : Judged} → Found G p S e j → NoHole e
    found-holeless (Found.variable t s u) = tt
    found-holeless (Found.stands t s a) = tt
    found-holeless (Found.global t m u) = tt
    found-holeless Found.sort = tt
    found-holeless (Found.function_type a b) = (type-holeless a, type-holeless b)
    found-holeless (Found.application x d a) = (holeless d, applied-holeless a)
    found-holeless (Found.family c a) = calls-holeless c (checked-holeless a)
    found-holeless (Found.listed c a) = calls-holeless c (checked-holeless a)
    found-holeless (Found.ascribed a d) = (type-holeless a, holeless d)
    found-holeless Found.integer = tt
    found-holeless Found.string = tt

    holeless : {p : Part} {S : Scope} {m : Mode} {e : Tree} {j : Judged} → Elaborates G p S m e j → NoHole e
    holeless (Elaborates.found f) = found-holeless f
    holeless (Elaborates.switch f c) = found-holeless f
    holeless (Elaborates.lam_synth l) = found-lambda-holeless l
    holeless (Elaborates.lam_check l) = checked-lambda-holeless l
    holeless (Elaborates.con_synth h t k a) = calls-holeless h (checked-holeless a)
    holeless (Elaborates.con_check h t x a s) = calls-holeless h (checked-holeless a)
    holeless (Elaborates.pure c h a) = calls-holeless c (checked-holeless a)
    holeless (Elaborates.let_in v b f) = let (A, e) = valued-holeless v in (A, e, holeless b)
    holeless (Elaborates.block r) = runs-holeless r

    type-holeless : {S : Scope} {e : Tree} {D : Classified} → IsType G S e D → NoHole e
    type-holeless (IsType.classified d h) = holeless d

    checked-holeless : {p : Part} {S : Scope} {Θ : Tele} {σ : ℕ → Term} {es : Arguments} {r : Given} →
        Checked G p S Θ σ es r → NoHoleInArguments es
    checked-holeless Checked.none = tt
    checked-holeless (Checked.more d a) = (holeless d, checked-holeless a)

    applied-holeless : {p : Part} {S : Scope} {f j : Judged} {es : Arguments} → Applied G p S f es j →
        NoHoleInArguments es
    applied-holeless Applied.itself = tt
    applied-holeless (Applied.to h d a) = (holeless d, applied-holeless a)

    found-lambda-holeless : {p : Part} {S : Scope} {bs : Binders} {e : Tree} {j : Judged} → FoundLambda G p S bs e j →
        NoHoleInBinders bs × NoHole e
    found-lambda-holeless (FoundLambda.found_body d) = (tt, holeless d)
    found-lambda-holeless (FoundLambda.found_binder t l f) =
        let (bs, e) = found-lambda-holeless l in ((type-holeless t, bs), e)

    checked-lambda-holeless : {p : Part} {S : Scope} {A : Term} {bs : Binders} {e : Tree} {j : Judged} →
        CheckedLambda G p S A bs e j → NoHoleInBinders bs × NoHole e
    checked-lambda-holeless (CheckedLambda.checked_body d) = (tt, holeless d)
    checked-lambda-holeless (CheckedLambda.checked_binder h a l f) =
        let (bs, e) = checked-lambda-holeless l in ((agrees-holeless a, bs), e)

    agrees-holeless : {S : Scope} {q : Mult} {A : Term} {b : Binder} → Agrees G S q A b → NoHoleInBinder b
    agrees-holeless Agrees.without_type = tt
    agrees-holeless (Agrees.with_type t c) = type-holeless t

    valued-holeless : {p : Part} {S : Scope} {A : Annotation} {e : Tree} {j : Judged} → Valued G p S A e j →
        NoHoleInAnnotation A × NoHole e
    valued-holeless (Valued.without_annotation d) = (tt, holeless d)
    valued-holeless (Valued.with_annotation t d) = (type-holeless t, holeless d)

    runs-holeless : {p : Part} {S : Scope} {m : Mode} {ss : Statements} {j : Judged} → Runs G p S m ss j →
        NoHoleInStatements ss
    runs-holeless (Runs.last d) = (holeless d, tt)
    runs-holeless (Runs.act a h d x r f) = (acts-holeless a (holeless d), runs-holeless r)
    runs-holeless (Runs.let_then v r f) = (valued-holeless v, runs-holeless r)

pub derived-has-no-hole : DerivedHasNoHole
derived-has-no-hole G p S m e j d = holeless G d
