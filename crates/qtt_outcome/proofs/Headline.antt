-- The outcome of a call has its promises.
use Rattle.std.specs.List.{AllByRecursion, list_any}
use Rattle.std.proofs.lemmas.List.Elements.{All-from_recursion}
use Rattle.std.proofs.Common.{◌≡◌, ◌∙◌, ◌⊎◌, inl, inr, ℕ, Bool, true, false, List, [], ◌∷◌, ◌++◌, map, flat_map, find, cond, codes, ◌||◌, All, Option, Some, None, Ok, Err, refl, sym, ap, subst, arith}
use Rattle.qtt_base.specs.declared.place.GlobalId.{GlobalId}
use Rattle.qtt_graph.specs.Graph.{Name}
use Rattle.qtt_term.specs.Signature.{Definition, Env, IoTy, UnitTy, definition_at, definition_of}
use Rattle.qtt_term.specs.Judgement.{Part}
use Rattle.qtt_term.specs.Infer.{usable}
use Rattle.qtt_term.specs.Term.{Io}
use Rattle.qtt_term.specs.Contraction.{Conv}
use Rattle.qtt_term.specs.TapeDiscipline.{ClosedOnce}
use Rattle.qtt_term.specs.FullRun.{Verdict, Run, full}
use Rattle.qtt_core_check.proofs.Forms.{is-usable}
use Rattle.qtt_term.specs.Environment.{WellFormed, Complete, IsMain}
use Rattle.qtt_term.specs.Entries.{Entries, env}
use Rattle.qtt_preserve.specs.Laws.{TapesClosedOnce}
use Rattle.qtt_preserve.proofs.Facts.{bodies_closed_holds, tapes_closed_once_holds}
use Rattle.qtt_term.specs.declared.rule.Rule.TheVariants as rule
use Rattle.qtt_rules.specs.Refusal.{Cause}
use Rattle.qtt_diag.specs.Kept.{Detail}
use Rattle.qtt_holes.specs.Hole.{Hole}
use Rattle.qtt_words.specs.Asked.{Work, Asked}
use Rattle.qtt_load.specs.Reading.{Texts, front, read_in}
use Rattle.qtt_module.specs.ModuleRules as module_rules
use Rattle.qtt_module.specs.Refused.{Refused, plain}
use Rattle.qtt_module.specs.Refused as judging
use Rattle.qtt_module.specs.Text.{Accepted}
use Rattle.qtt_module.specs.TextCalls.{judged_main}
use Rattle.qtt_module.proofs.Judged.{mains_are_judged_holds}
use Rattle.qtt_lower.specs.declared.program.LowerError.{LowerError}
use Rattle.qtt_lower.specs.declared.program.LowerError.TheVariants as lower
use Rattle.qtt_lower.specs.Compiled.{excess_of}
use Rattle.qtt_code.specs.Instruction.{Program}
use Rattle.qtt_code.specs.Listing.{listing}
use Rattle.qtt_build.specs.Built.{Built, is_named}
use Rattle.qtt_build.specs.Build.{build}
use Rattle.qtt_build.specs.Build as builds
use Rattle.qtt_build.specs.Judged.{RefusesBuild}
use Rattle.qtt_build.specs.Laws.{BuildLaws, HasNoHoles}
use Rattle.qtt_outcome.specs.Stop.{Stop, Answer, ◌>>=◌, of_build, of_judged, holes_of, all_holes, hole_name, none_of, no_holes, module_named, main_in, main_of, program_of, within, code_of, Runnable, runnable}
use Rattle.qtt_outcome.specs.Outcome.{Outcome, puts, stopped, outcome_of, check_text, core_text, verdict_status, run_outcome, run_of, counts, counted_outcome, texts_for, root_of, built_for, put, worked}
use Rattle.qtt_outcome.specs.Headline.{came, HasDerivations, IsGoing, AcceptedIsDerived, wants_no_hole, wants_main, Reason, IsRefused, RefusedForReason, IsAbsent, AbsentIsTold, OneOfThree, runs, behind_lines, IsOver, IsRun, RunsAreEvaluations, MainsMayRun, JobsChangeNothing}
use Rattle.qtt_outcome.proofs.Answers.{Later, both, either}

-- ---- statuses
going-is-not-one : (n : ℕ) → IsGoing n → n ≡ 1 → ⊥
going-is-not-one n (inl e) h = absurd (let g : 0 ≡ 1 = sym e ∙ h in cc g)
going-is-not-one n (inr (inl e)) h = absurd (let g : 2 ≡ 1 = sym e ∙ h in cc g)
going-is-not-one n (inr (inr e)) h = absurd (let g : 3 ≡ 1 = sym e ∙ h in cc g)

going-is-not-absent : (n : ℕ) → IsGoing n → n ≡ 66 → ⊥
going-is-not-absent n (inl e) h = absurd (let g : 0 ≡ 66 = sym e ∙ h in cc g)
going-is-not-absent n (inr (inl e)) h = absurd (let g : 2 ≡ 66 = sym e ∙ h in cc g)
going-is-not-absent n (inr (inr e)) h = absurd (let g : 3 ≡ 66 = sym e ∙ h in cc g)

only-absent : (s : Stop) → (stopped s).status ≡ 66 → (a : Name) × (s ≡ Stop.absent a)
only-absent Stop.usage e = absurd (let g : 64 ≡ 66 = e in omega (arith, g))
only-absent (Stop.absent a) e = (a, refl)
only-absent (Stop.refused x) e = absurd (let g : 1 ≡ 66 = e in omega (arith, g))

pub stopped-is-not-going : (s : Stop) → IsGoing (stopped s).status → ⊥
stopped-is-not-going Stop.usage (inl e) = absurd (cc e)
stopped-is-not-going Stop.usage (inr (inl e)) = absurd (cc e)
stopped-is-not-going Stop.usage (inr (inr e)) = absurd (cc e)
stopped-is-not-going (Stop.absent a) (inl e) = absurd (cc e)
stopped-is-not-going (Stop.absent a) (inr (inl e)) = absurd (cc e)
stopped-is-not-going (Stop.absent a) (inr (inr e)) = absurd (cc e)
stopped-is-not-going (Stop.refused x) (inl e) = absurd (cc e)
stopped-is-not-going (Stop.refused x) (inr (inl e)) = absurd (cc e)
stopped-is-not-going (Stop.refused x) (inr (inr e)) = absurd (cc e)

verdict-is-going : (v : Verdict) → IsGoing (verdict_status v)
verdict-is-going Verdict.ended = inl refl
verdict-is-going (Verdict.trapped k) = inr (inl refl)
verdict-is-going Verdict.running = inr (inr refl)
verdict-is-going Verdict.stuck = inr (inr refl)

-- ---- stages
built-ok : (o : builds.Outcome Built) (B : Built) → of_build o ≡ Ok B → o ≡ Ok B
built-ok (Ok A) B h = let e : A ≡ B = cc h in ap (λ (C : Built). Ok C) e
built-ok (Err s) B h = absurd (cc h)

built-refused : (o : builds.Outcome Built) (x : Refused) → of_build o ≡ Err (Stop.refused x) →
    o ≡ Err (builds.Stop.refused x)
built-refused (Ok A) x h = absurd (cc h)
built-refused (Err (builds.Stop.absent a)) x h =
    absurd (let g : Stop.absent a ≡ Stop.refused x = cc h in cc g)
built-refused (Err (builds.Stop.refused y)) x h =
    let g : Stop.refused y ≡ Stop.refused x = cc h in
    let e : y ≡ x = cc g in ap (λ (z : Refused). Err (builds.Stop.refused z)) e

built-absent : (o : builds.Outcome Built) (a : Name) → of_build o ≡ Err (Stop.absent a) →
    o ≡ Err (builds.Stop.absent a)
built-absent (Ok A) a h = absurd (cc h)
built-absent (Err (builds.Stop.absent b)) a h =
    let g : Stop.absent b ≡ Stop.absent a = cc h in
    let e : b ≡ a = cc g in ap (λ (c : Name). Err (builds.Stop.absent c)) e
built-absent (Err (builds.Stop.refused y)) a h =
    absurd (let g : Stop.refused y ≡ Stop.absent a = cc h in cc g)

never-usage : (o : builds.Outcome Built) → of_build o ≡ Err Stop.usage → ⊥
never-usage (Ok A) h = absurd (cc h)
never-usage (Err (builds.Stop.absent b)) h = absurd (let g : Stop.absent b ≡ Stop.usage = cc h in cc g)
never-usage (Err (builds.Stop.refused y)) h = absurd (let g : Stop.refused y ≡ Stop.usage = cc h in cc g)

judged-ok : {A : Type 0} (a : judging.Answer A) (x : A) → of_judged a ≡ Ok x → a ≡ Ok x
judged-ok (Ok a) x h = let e : a ≡ x = cc h in ap Ok e
judged-ok (Err r) x h = absurd (cc h)

judged-refused : {A : Type 0} (a : judging.Answer A) (x : Refused) → of_judged a ≡ Err (Stop.refused x) → a ≡ Err x
judged-refused (Ok a) x h = absurd (cc h)
judged-refused (Err y) x h =
    let g : Stop.refused y ≡ Stop.refused x = cc h in
    let e : y ≡ x = cc g in ap (λ (z : Refused). Err z) e

-- a stage that stops by a refusal alone
abbrev OnlyRefuses : {A : Type 0} → Answer A → Type 0
OnlyRefuses a = (s : Stop) → a ≡ Err s → (x : Refused) × (s ≡ Stop.refused x)

never-stops : {A : Type 0} (x : A) → OnlyRefuses (Ok x)
never-stops x s h = absurd (cc h)

then-only : {A B : Type 0} (m : Answer A) (k : A → Answer B) → OnlyRefuses m → ((a : A) → OnlyRefuses (k a)) →
    OnlyRefuses (m >>= k)
then-only m k f g s h = by_case (either m k s h)
  where
    by_case : (m ≡ Err s) ⊎ Later m k s → (x : Refused) × (s ≡ Stop.refused x)
    by_case (inl e) = f s e
    by_case (inr l) = g l.value s l.later

judged-only : {A : Type 0} (a : judging.Answer A) → OnlyRefuses (of_judged a)
judged-only (Ok a) s h = absurd (cc h)
judged-only (Err y) s h = let g : Stop.refused y ≡ s = cc h in (y, sym g)

code-only : (root : Name) (P : Program) (o : Option LowerError) → OnlyRefuses (within root P o)
code-only root P None s h = absurd (cc h)
code-only root P (Some (lower.Limit q n)) s h =
    let x = plain rule.Program root front (Detail.premise (Cause.limit q n)) in
    let g : Stop.refused x ≡ s = cc h in (x, sym g)
code-only root P (Some lower.Memory) s h = absurd (cc h)

found : (p : Accepted → Bool) (As : List Accepted) → list_any p As ≡ true →
    (A : Accepted) × (find p As ≡ Some A)
found p [] e = absurd (cc e)
found p (A ∷ As) e = by_test (p A) (found p As) e
  where
    by_test : (t : Bool) → (list_any p As ≡ true → (B : Accepted) × (find p As ≡ Some B)) →
        (t || list_any p As) ≡ true → (B : Accepted) × (cond t (Some A) (find p As) ≡ Some B)
    by_test true later e = (A, refl)
    by_test false later e = later e

main-only : (n : ℕ) (B : Built) (root : Name) → list_any (is_named root) B.order ≡ true →
    OnlyRefuses (main_of n B root)
main-only n B root i =
    let f = found (is_named root) B.order i in
    subst (λ (o : Option Accepted). OnlyRefuses (main_in n B root o)) (sym f.1)
    (judged-only (judged_main n B.globals f.0))

-- ---- holes
none-of-ok : (hs : List (Name × Hole)) → none_of hs ≡ Ok tt → hs ≡ []
none-of-ok [] h = refl
none-of-ok (x ∷ xs) h = absurd (cc h)

named-none : (A : Accepted) (more : List (Name × Hole)) → holes_of A ++ more ≡ [] → A.checked.holes ≡ []
named-none A more h = by_holes A.checked.holes h
  where
    by_holes : (hs : List Hole) → map (λ h. (A.exports.name, h)) hs ++ more ≡ [] → hs ≡ []
    by_holes [] e = refl
    by_holes (x ∷ hs) e = absurd (cc e)

later-none : (A : Accepted) (more : List (Name × Hole)) → holes_of A ++ more ≡ [] → more ≡ []
later-none A more h = by_holes A.checked.holes h
  where
    by_holes : (hs : List Hole) → map (λ h. (A.exports.name, h)) hs ++ more ≡ [] → more ≡ []
    by_holes [] e = e
    by_holes (x ∷ hs) e = absurd (cc e)

no-holes-in : (As : List Accepted) → flat_map holes_of As ≡ [] → All HasNoHoles As
no-holes-in As h = All-from_recursion HasNoHoles As (by_module As h)
  where
    by_module : (As : List Accepted) → flat_map holes_of As ≡ [] → AllByRecursion HasNoHoles As
    by_module [] h = tt
    by_module (A ∷ As) h =
        (named-none A (flat_map holes_of As) h, by_module As (later-none A (flat_map holes_of As) h))

no-hole : (B : Built) (u : Unit {0}) → no_holes B ≡ Ok u → All HasNoHoles B.order
no-hole B u h = no-holes-in B.order (none-of-ok (all_holes B) h)

holes-only : (B : Built) → OnlyRefuses (no_holes B)
holes-only B s h = by_holes (all_holes B) h
  where
    by_holes : (hs : List (Name × Hole)) → none_of hs ≡ Err s → (x : Refused) × (s ≡ Stop.refused x)
    by_holes [] e = absurd (cc e)
    by_holes (y ∷ ys) e =
        let x = plain rule.Build y.0 y.1.span (Detail.has_holes (map hole_name (y ∷ ys))) in
        let g : Stop.refused x ≡ s = cc e in (x, sym g)

-- ---- main
main-there : (E : Env) (d : GlobalId) → usable Part.run (definition_at E d).mult ≡ true →
    (D : Definition) × (E.definition d ≡ Some D)
main-there E d u = by_definition (E.definition d) refl u
  where
    by_definition : (o : Option Definition) → E.definition d ≡ o → usable Part.run (definition_of o).mult ≡ true →
        (D : Definition) × (E.definition d ≡ Some D)
    by_definition None e u = absurd (cc u)
    by_definition (Some D) e u = (D, e)

main-so : (G : Entries) (o : Option GlobalId) (d : GlobalId) → module_rules.IsMain G o d → IsMain (env G) d
main-so G o d (module_rules.IsMain.is_main u c) =
    let t = main-there (env G) d u in
    let at : definition_at (env G) d ≡ t.0 = ap definition_of t.1 in
    record {
      definition = t.0;
      there = t.1;
      usable = is-usable Part.run t.0.mult (subst (λ (D : Definition). usable Part.run D.mult ≡ true) at u);
      typed = subst (λ (D : Definition). Conv (env G) D.type (IoTy Io.io UnitTy)) at c;
    }

-- the named module and its main
record HasMain (n : ℕ) (B : Built) (root : Name) (main : GlobalId) : Type 0 where
  accepted : Accepted
  named : module_named B root ≡ Some accepted
  judged : judged_main n B.globals accepted ≡ Ok main

main-ok : (n : ℕ) (B : Built) (root : Name) (main : GlobalId) → main_of n B root ≡ Ok main → HasMain n B root main
main-ok n B root main h = by_module (module_named B root) refl h
  where
    by_module : (o : Option Accepted) → module_named B root ≡ o → main_in n B root o ≡ Ok main →
        HasMain n B root main
    by_module None e h = absurd (cc h)
    by_module (Some A) e h =
        record { accepted = A; named = e; judged = judged-ok (judged_main n B.globals A) main h }

record MainRefused (n : ℕ) (B : Built) (root : Name) (x : Refused) : Type 0 where
  accepted : Accepted
  named : module_named B root ≡ Some accepted
  judged : judged_main n B.globals accepted ≡ Err x

main-refused : (n : ℕ) (B : Built) (root : Name) (x : Refused) → main_of n B root ≡ Err (Stop.refused x) →
    MainRefused n B root x
main-refused n B root x h = by_module (module_named B root) refl h
  where
    by_module : (o : Option Accepted) → module_named B root ≡ o → main_in n B root o ≡ Err (Stop.refused x) →
        MainRefused n B root x
    by_module None e h = absurd (let g : Stop.absent root ≡ Stop.refused x = cc h in cc g)
    by_module (Some A) e h =
        record { accepted = A; named = e; judged = judged-refused (judged_main n B.globals A) x h }

main-is : (n : ℕ) (root : Name) (B : Built) (main : GlobalId) → WellFormed (env B.globals) →
    HasMain n B root main → IsMain (env B.globals) main
main-is n root B main formed m =
    main-so B.globals m.accepted.checked.main main
    (mains_are_judged_holds.given n B.globals m.accepted main (bodies_closed_holds (env B.globals) formed) m.judged)

-- ---- what is run, or listed as code
abbrev with_code : GlobalId → Program → Answer Runnable
with_code main P = Ok (record { main = main; program = P })

abbrev behind_main : Name → Built → GlobalId → Answer Runnable
behind_main root B main = code_of root B >>= with_code main

runnable-ok : (n : ℕ) (root : Name) (B : Built) (x : Runnable) → runnable n root B ≡ Ok x → HasMain n B root x.main
runnable-ok n root B x h =
    let m = both (main_of n B root) (behind_main root B) x h in
    let p = both (code_of root B) (with_code m.value) x m.later in
    let e : record { main = m.value; program = p.value } ≡ x = cc p.later in
    subst (HasMain n B root) (ap (λ (y : Runnable). y.main) e) (main-ok n B root m.value m.first)

runnable-refused : (n : ℕ) (root : Name) (B : Built) (x : Refused) → runnable n root B ≡ Err (Stop.refused x) →
    MainRefused n B root x ⊎ (code_of root B ≡ Err (Stop.refused x))
runnable-refused n root B x h = by_main (either (main_of n B root) (behind_main root B) (Stop.refused x) h)
  where
    by_code : (main : GlobalId) → (code_of root B ≡ Err (Stop.refused x)) ⊎
        Later (code_of root B) (with_code main) (Stop.refused x) →
        MainRefused n B root x ⊎ (code_of root B ≡ Err (Stop.refused x))
    by_code main (inl e) = inr e
    by_code main (inr l) = absurd (let g = l.later in cc g)

    by_main : (main_of n B root ≡ Err (Stop.refused x)) ⊎
        Later (main_of n B root) (behind_main root B) (Stop.refused x) →
        MainRefused n B root x ⊎ (code_of root B ≡ Err (Stop.refused x))
    by_main (inl e) = inl (main-refused n B root x e)
    by_main (inr l) = by_code l.value (either (code_of root B) (with_code l.value) (Stop.refused x) l.later)

runnable-only : (n : ℕ) (root : Name) (B : Built) → list_any (is_named root) B.order ≡ true →
    OnlyRefuses (runnable n root B)
runnable-only n root B i =
    then-only (main_of n B root) (behind_main root B) (main-only n B root i)
    (λ main. then-only (code_of root B) (with_code main)
    (code-only root (program_of B.globals) (excess_of (program_of B.globals))) (λ P. never-stops _))

-- ---- a request
module _ (laws : BuildLaws) (texts : Texts) (input : List ℕ) (r : Asked) where
  pub has : (B : Built) → built_for texts r ≡ Ok B → HasDerivations texts r B
  has B e =
      let b = built-ok (build (read_in (texts_for texts r.work)) (root_of r.work) r.budget) B e in
      let d = laws.judged.built (read_in (texts_for texts r.work)) (root_of r.work) r.budget B b in
      record {
        declares = d;
        formed = laws.forms.formed (texts_for texts r.work) (root_of r.work) B d;
        alone = λ C e. laws.once.one (texts_for texts r.work) (root_of r.work) C B e d;
        clauses = laws.clauses (texts_for texts r.work) (root_of r.work) B d;
      }

  not-built : (x : Refused) → built_for texts r ≡ Err (Stop.refused x) → Reason texts r x
  not-built x e =
      let f : RefusesBuild (read_in (texts_for texts r.work)) (root_of r.work) r.budget (builds.Stop.refused x) =
      laws.judged.stopped (read_in (texts_for texts r.work)) (root_of r.work) r.budget (builds.Stop.refused x)
      (built-refused (build (read_in (texts_for texts r.work)) (root_of r.work) r.budget) x e) in
      Reason.no_build f
      (laws.refusals (texts_for texts r.work) (root_of r.work) r.budget (builds.Stop.refused x) f)
      (λ other B d.
      laws.once.none (texts_for texts r.work) (root_of r.work) r.budget (builds.Stop.refused x) B f other d)

  module _ (B : Built) (h : HasDerivations texts r B) where
    -- a refusal of what is to be run
    not-runnable : (x : Refused) → wants_main r.work ≡ true →
        MainRefused r.budget B (root_of r.work) x ⊎ (code_of (root_of r.work) B ≡ Err (Stop.refused x)) →
        Reason texts r x
    not-runnable x w (inl m) =
        Reason.wrong_main w h m.named
        (mains_are_judged_holds.refused r.budget B.globals m.accepted x (bodies_closed_holds (env B.globals) h.formed)
        m.judged)
    not-runnable x w (inr e) = Reason.too_large w h e

    -- what is put is refused for a reason, or is of a status with which the call goes on
    record Sound (w : Work) (a : Answer Outcome) : Type 0 where
      refused : r.work ≡ w → (x : Refused) → a ≡ Err (Stop.refused x) → Reason texts r x
      going : (o : Outcome) → a ≡ Ok o → IsGoing o.status

    abbrev shown : (Runnable → Outcome) → Runnable → Answer Outcome
    shown k x = Ok (k x)

    abbrev with_main : Name → (Runnable → Outcome) → Answer Outcome
    with_main root k = runnable r.budget root B >>= shown k

    abbrev behind_holes : Answer Outcome → Unit {0} → Answer Outcome
    behind_holes a u = a

    puts-soundly : (w : Work) (bytes : List ℕ) → Sound w (Ok (puts bytes))
    puts-soundly w bytes = record {
      refused = λ e x h. absurd (cc h);
      going = λ o h.
          let g : puts bytes ≡ o = cc h in subst (λ (p : Outcome). IsGoing p.status) g (inl refl);
    }

    runs-soundly : (w : Work) → wants_main w ≡ true → (k : Runnable → Outcome) →
        ((x : Runnable) → IsGoing (k x).status) → Sound w (with_main (root_of w) k)
    runs-soundly w wants k goes = record {
      refused = λ e x h.
          let root : root_of r.work ≡ root_of w = ap root_of e in
          not-runnable x (ap wants_main e ∙ wants)
          (subst (λ a. MainRefused r.budget B a x ⊎ (code_of a B ≡ Err (Stop.refused x))) (sym root)
          (runnable-refused r.budget (root_of w) B x
          (only-first x (either (runnable r.budget (root_of w) B) (shown k) (Stop.refused x) h))));
      going = λ o h.
          let b = both (runnable r.budget (root_of w) B) (shown k) o h in
          let g : k b.value ≡ o = (let f : shown k b.value ≡ Ok o = b.later in cc f) in
          subst (λ (p : Outcome). IsGoing p.status) g (goes b.value);
    }
      where
        only-first : (x : Refused) → (runnable r.budget (root_of w) B ≡ Err (Stop.refused x)) ⊎
            Later (runnable r.budget (root_of w) B) (shown k) (Stop.refused x) →
            runnable r.budget (root_of w) B ≡ Err (Stop.refused x)
        only-first x (inl e) = e
        only-first x (inr l) =
            absurd (let f : shown k l.value ≡ Err (Stop.refused x) = l.later in cc f)

    behind-holes-soundly : (w : Work) → wants_no_hole w ≡ true → (a : Answer Outcome) → Sound w a →
        Sound w (no_holes B >>= behind_holes a)
    behind-holes-soundly w wants a sound = record {
      refused = λ e x h. by_holes e x (either (no_holes B) (behind_holes a) (Stop.refused x) h);
      going = λ o h.
          let b = both (no_holes B) (behind_holes a) o h in sound.going o b.later;
    }
      where
        by_holes : r.work ≡ w → (x : Refused) → (no_holes B ≡ Err (Stop.refused x)) ⊎
            Later (no_holes B) (behind_holes a) (Stop.refused x) → Reason texts r x
        by_holes e x (inl g) = Reason.hole (ap wants_no_hole e ∙ wants) h g
        by_holes e x (inr l) = sound.refused e x l.later

    put-is-sound : (w : Work) → Sound w (put input r B w)
    unfolding put
    put-is-sound (Work.check a) = puts-soundly (Work.check a) (check_text B)
    put-is-sound (Work.core a) = puts-soundly (Work.core a) (core_text B a)
    put-is-sound (Work.code a) =
        let k : Runnable → Outcome = λ x. puts (listing B.globals.definitions x.program) in
        behind-holes-soundly (Work.code a) refl (with_main a k)
        (runs-soundly (Work.code a) refl k (λ x. inl refl))
    put-is-sound (Work.run a) =
        let k : Runnable → Outcome = λ x. run_outcome (run_of r.steps B x input) [] in
        behind-holes-soundly (Work.run a) refl (with_main a k)
        (runs-soundly (Work.run a) refl k (λ x. verdict-is-going (run_of r.steps B x input).verdict))
    put-is-sound (Work.gen n) =
        let k : Runnable → Outcome = λ x. counted_outcome B (run_of r.steps B x input) in
        behind-holes-soundly (Work.gen n) refl (with_main (codes "Main") k)
        (runs-soundly (Work.gen n) refl k (λ x. verdict-is-going (run_of r.steps B x input).verdict))

    -- what is put stops by a refusal alone, where the named module is built
    put-only : (w : Work) → list_any (is_named (root_of w)) B.order ≡ true → OnlyRefuses (put input r B w)
    unfolding put
    put-only (Work.check a) i = never-stops (puts (check_text B))
    put-only (Work.core a) i = never-stops (puts (core_text B a))
    put-only (Work.code a) i =
        let k : Runnable → Outcome = λ x. puts (listing B.globals.definitions x.program) in
        then-only (no_holes B) (behind_holes (with_main a k)) (holes-only B)
        (λ u. then-only (runnable r.budget a B) (shown k) (runnable-only r.budget a B i) (λ x. never-stops (k x)))
    put-only (Work.run a) i =
        let k : Runnable → Outcome = λ x. run_outcome (run_of r.steps B x input) [] in
        then-only (no_holes B) (behind_holes (with_main a k)) (holes-only B)
        (λ u. then-only (runnable r.budget a B) (shown k) (runnable-only r.budget a B i) (λ x. never-stops (k x)))
    put-only (Work.gen n) i =
        let k : Runnable → Outcome = λ x. counted_outcome B (run_of r.steps B x input) in
        then-only (no_holes B) (behind_holes (with_main (codes "Main") k)) (holes-only B)
        (λ u. then-only (runnable r.budget (codes "Main") B) (shown k) (runnable-only r.budget (codes "Main") B i)
        (λ x. never-stops (k x)))

  abbrev behind_build : Built → Answer Outcome
  behind_build B = put input r B r.work

  worked-refused : (x : Refused) → worked texts input r ≡ Err (Stop.refused x) → Reason texts r x
  unfolding worked
  worked-refused x h = by_build (either (built_for texts r) behind_build (Stop.refused x) h)
    where
      by_build : (built_for texts r ≡ Err (Stop.refused x)) ⊎
          Later (built_for texts r) behind_build (Stop.refused x) → Reason texts r x
      by_build (inl e) = not-built x e
      by_build (inr l) =
          Sound.refused (put-is-sound l.value (has l.value l.first) r.work) refl x l.later

  -- over this build the call goes on
  pub record Going (o : Outcome) : Type 0 where
    pub build_is : Built
    pub built : built_for texts r ≡ Ok build_is
    pub put_is : put input r build_is r.work ≡ Ok o

  pub worked-ok : (o : Outcome) → worked texts input r ≡ Ok o → Going o
  unfolding worked
  worked-ok o h =
      let b = both (built_for texts r) behind_build o h in
      record { build_is = b.value; built = b.first; put_is = b.later }

  going-status : (o : Outcome) → Going o → IsGoing o.status
  going-status o g =
      Sound.going (put-is-sound g.build_is (has g.build_is g.built) r.work) o g.put_is

  -- ---- what stops
  put-stops : (B : Built) → built_for texts r ≡ Ok B → OnlyRefuses (put input r B r.work)
  put-stops B e =
      put-only B (has B e) r.work
      (laws.roots (texts_for texts r.work) (root_of r.work) r.budget B
      (built-ok (build (read_in (texts_for texts r.work)) (root_of r.work) r.budget) B e))

  never-for-usage : worked texts input r ≡ Err Stop.usage → ⊥
  unfolding worked
  never-for-usage h = by_build (either (built_for texts r) behind_build Stop.usage h)
    where
      by_build : (built_for texts r ≡ Err Stop.usage) ⊎ Later (built_for texts r) behind_build Stop.usage → ⊥
      by_build (inl e) = never-usage (build (read_in (texts_for texts r.work)) (root_of r.work) r.budget) e
      by_build (inr l) =
          let s = put-stops l.value l.first Stop.usage l.later in
          absurd (let g : Stop.usage ≡ Stop.refused s.0 = s.1 in cc g)

  lacks : (a : Name) → worked texts input r ≡ Err (Stop.absent a) →
      RefusesBuild (read_in (texts_for texts r.work)) (root_of r.work) r.budget (builds.Stop.absent a)
  unfolding worked
  lacks a h = by_build (either (built_for texts r) behind_build (Stop.absent a) h)
    where
      by_build : (built_for texts r ≡ Err (Stop.absent a)) ⊎
          Later (built_for texts r) behind_build (Stop.absent a) →
          RefusesBuild (read_in (texts_for texts r.work)) (root_of r.work) r.budget (builds.Stop.absent a)
      by_build (inl e) =
          laws.judged.stopped (read_in (texts_for texts r.work)) (root_of r.work) r.budget (builds.Stop.absent a)
          (built-absent (build (read_in (texts_for texts r.work)) (root_of r.work) r.budget) a e)
      by_build (inr l) =
          let s = put-stops l.value l.first (Stop.absent a) l.later in
          absurd (let g : Stop.absent a ≡ Stop.refused s.0 = s.1 in cc g)

  told-absent : (a : Name) →
      RefusesBuild (read_in (texts_for texts r.work)) (root_of r.work) r.budget (builds.Stop.absent a) →
      IsAbsent texts r (stopped (Stop.absent a))
  told-absent a l = record {
    name = a;
    lacking = l;
    none = λ B d.
        laws.once.none (texts_for texts r.work) (root_of r.work) r.budget (builds.Stop.absent a) B l (λ f. f) d;
    told = refl;
    silent = refl;
  }

  absent-so : (came texts input r).status ≡ 66 → IsAbsent texts r (came texts input r)
  absent-so = by_answer (worked texts input r) refl
    where
      by_answer : (a : Answer Outcome) → worked texts input r ≡ a → (outcome_of a).status ≡ 66 →
          IsAbsent texts r (outcome_of a)
      by_answer (Ok o) e i = absurd (going-is-not-absent o.status (going-status o (worked-ok o e)) i)
      by_answer (Err s) e i =
          let n = only-absent s i in
          subst (λ (t : Stop). IsAbsent texts r (stopped t)) (sym n.1)
          (told-absent n.0 (lacks n.0 (e ∙ ap (λ (t : Stop). Err t) n.1)))

  three-so : IsGoing (came texts input r).status ⊎ ((came texts input r).status ≡ 1) ⊎
      ((came texts input r).status ≡ 66)
  three-so = by_answer (worked texts input r) refl
    where
      by_answer : (a : Answer Outcome) → worked texts input r ≡ a → IsGoing (outcome_of a).status ⊎
          ((outcome_of a).status ≡ 1) ⊎ ((outcome_of a).status ≡ 66)
      by_answer (Ok o) e = inl (going-status o (worked-ok o e))
      by_answer (Err Stop.usage) e = absurd (never-for-usage e)
      by_answer (Err (Stop.refused x)) e = inr (inl refl)
      by_answer (Err (Stop.absent a)) e = inr (inr refl)

  -- ---- accepted
  accepted-so : IsGoing (came texts input r).status → (B : Built) × HasDerivations texts r B
  accepted-so = by_answer (worked texts input r) refl
    where
      by_answer : (a : Answer Outcome) → worked texts input r ≡ a → IsGoing (outcome_of a).status →
          (B : Built) × HasDerivations texts r B
      by_answer (Ok o) e i = let g = worked-ok o e in (g.build_is, has g.build_is g.built)
      by_answer (Err s) e i = absurd (stopped-is-not-going s i)

  -- ---- refused
  refused-so : (came texts input r).status ≡ 1 → IsRefused texts r (came texts input r)
  refused-so = by_answer (worked texts input r) refl
    where
      by_answer : (a : Answer Outcome) → worked texts input r ≡ a → (outcome_of a).status ≡ 1 →
          IsRefused texts r (outcome_of a)
      by_answer (Ok o) e i = absurd (going-is-not-one o.status (going-status o (worked-ok o e)) i)
      by_answer (Err Stop.usage) e i = absurd (cc i)
      by_answer (Err (Stop.absent a)) e i = absurd (cc i)
      by_answer (Err (Stop.refused x)) e i =
          record { refusal = x; reason = worked-refused x e; told = refl; silent = refl }

  -- ---- runs
  run-of-main : (root : Name) (B : Built) (h : HasDerivations texts r B) (more : Run → List ℕ) →
      ((R : Run) → more R ≡ behind_lines r.work B R) → (o : Outcome) →
      (no_holes B >>= behind_holes B h (with_main B h root (λ x. run_outcome (run_of r.steps B x input)
      (more (run_of r.steps B x input))))) ≡ Ok o → IsRun texts input r o
  run-of-main root B h more same o e =
      let k : Runnable → Outcome = λ x. run_outcome (run_of r.steps B x input) (more (run_of r.steps B x input)) in
      let u = both (no_holes B) (behind_holes B h (with_main B h root k)) o e in
      let x = both (runnable r.budget root B) (shown B h k) o u.later in
      let shows : k x.value ≡ o = (let f : shown B h k x.value ≡ Ok o = x.later in cc f) in
      let whole : Complete (env B.globals) =
      laws.forms.complete (texts_for texts r.work) (root_of r.work) B h.declares (no-hole B u.value u.first) in
      let main : IsMain (env B.globals) x.value.main =
      main-is r.budget root B x.value.main h.formed (runnable-ok r.budget root B x.value x.first) in
      let t = tapes_closed_once_holds (env B.globals) h.formed whole x.value.main main r.steps input in
      record {
        built = B;
        derived = h;
        complete = whole;
        main = x.value.main;
        is_main = main;
        shows = sym shows ∙ ap (run_outcome (run_of r.steps B x.value input)) (same (run_of r.steps B x.value input));
        disciplined = t.always;
        closed = over (full r.steps (env B.globals) x.value.main input).verdict refl t;
      }
    where
      over : {E : Env} {d : GlobalId} (v : Verdict) → (full r.steps E d input).verdict ≡ v →
          TapesClosedOnce E d r.steps input → IsOver (full r.steps E d input).verdict →
          ClosedOnce (full r.steps E d input).last.events
      over Verdict.ended e t i = t.ended e
      over (Verdict.trapped c) e t i = t.trapped c e
      over Verdict.running e t i = absurd (subst IsOver e i)
      over Verdict.stuck e t i = absurd (subst IsOver e i)

  run-is-put : (w : Work) → r.work ≡ w → runs w ≡ true → (B : Built) → HasDerivations texts r B → (o : Outcome) →
      put input r B w ≡ Ok o → IsRun texts input r o
  unfolding put
  run-is-put (Work.check a) q t B h o e = absurd (cc t)
  run-is-put (Work.core a) q t B h o e = absurd (cc t)
  run-is-put (Work.code a) q t B h o e = absurd (cc t)
  run-is-put (Work.run root) q t B h o e =
      run-of-main root B h (λ R. []) (λ R. ap (λ v. behind_lines v B R) (sym q)) o e
  run-is-put (Work.gen n) q t B h o e =
      run-of-main (codes "Main") B h (λ R. counts B R R.verdict) (λ R. ap (λ v. behind_lines v B R) (sym q)) o e

  runs-so : runs r.work ≡ true → IsGoing (came texts input r).status → IsRun texts input r (came texts input r)
  runs-so t = by_answer (worked texts input r) refl
    where
      by_answer : (a : Answer Outcome) → worked texts input r ≡ a → IsGoing (outcome_of a).status →
          IsRun texts input r (outcome_of a)
      by_answer (Ok o) e i =
          let g = worked-ok o e in run-is-put r.work refl t g.build_is (has g.build_is g.built) o g.put_is
      by_answer (Err s) e i = absurd (stopped-is-not-going s i)

-- ---- the laws, from those of builds
abbrev pub ByBuilds : Type 0 → Type 0
ByBuilds law = BuildLaws → law

pub accepted_is_derived_holds : ByBuilds AcceptedIsDerived
accepted_is_derived_holds laws texts input r = accepted-so laws texts input r

pub refused_for_reason_holds : ByBuilds RefusedForReason
refused_for_reason_holds laws texts input r = refused-so laws texts input r

pub absent_is_told_holds : ByBuilds AbsentIsTold
absent_is_told_holds laws texts input r = absent-so laws texts input r

pub one_of_three_holds : ByBuilds OneOfThree
one_of_three_holds laws texts input r = three-so laws texts input r

pub runs_are_evaluations_holds : ByBuilds RunsAreEvaluations
runs_are_evaluations_holds laws texts input r t = runs-so laws texts input r t

pub mains_may_run_holds : ByBuilds MainsMayRun
mains_may_run_holds laws texts root n B u main built none is =
    let d = laws.judged.built (read_in texts) root n B built in
    let formed = laws.forms.formed texts root B d in
    record {
      formed = formed;
      complete = laws.forms.complete texts root B d (no-hole B u none);
      is_main = main-is n root B main formed (main-ok n B root main is);
    }

pub jobs_change_nothing_holds : JobsChangeNothing
unfolding worked put
jobs_change_nothing_holds texts input r j = by_work r.work
  where
    by_work : (w : Work) → outcome_of (worked texts input (record r { work = w; jobs = j }))
        ≡ outcome_of (worked texts input (record r { work = w }))
    by_work (Work.check a) = refl
    by_work (Work.core a) = refl
    by_work (Work.code a) = refl
    by_work (Work.run a) = refl
    by_work (Work.gen n) = refl
