-- The steps of targets, target by target, and what they lead to.
use Rattle.std.proofs.Common.{◌≡◌, ◌∙◌, ℕ, ◌+◌, ◌<◌, ◌≤◌, List, [], ◌∷◌, ◌++◌, length, get_or, map, drop, refl, sym, ap, append_assoc, append-nil}
use Rattle.std.proofs.lemmas.List.{map-append, drop_more, drop_all}
use Rattle.qtt_term.specs.declared.term.ConId.{ConId}
use Rattle.qtt_term.specs.declared.term.Term as code_term
use Rattle.qtt_term.specs.Term.{Form, Term, Terms, node, ◌+++◌}
use Rattle.qtt_term.specs.Entries.{Entries, env}
use Rattle.qtt_term.specs.View.{term, side_by_side}
use Rattle.qtt_unify.specs.View.{all_terms}
use Rattle.qtt_split.specs.declared.steps.Step as code_step
use Rattle.qtt_split.specs.declared.frames.Frame as code_frame
use Rattle.qtt_split.specs.Motive.{Way, Aim, at_variable}
use Rattle.qtt_split.specs.Ways.{Step, steps, all_steps, step_of, frame_of, inside, case_in, wrapped, along, Leads}
use Rattle.qtt_split.proofs.Through.{own-along}
use Rattle.qtt_split.proofs.Settling.{front-joined}
use Rattle.qtt_split.proofs.Framing.{wrapped-more}

-- ---- a constructor
steps-behind : (ts : List Term) (ss : Terms) → all_steps (side_by_side ts +++ ss) (length ts) ≡ all_steps ss 0
steps-behind [] ss = refl
steps-behind (t ∷ ts) ss = steps-behind ts ss

pub steps-con : (c : ConId) (ps : List Term) (fs : Terms) →
    steps (node (Form.con c.family c.place (length ps)) (side_by_side ps +++ fs))
    ≡ Step.made_of c (side_by_side ps) ∷ all_steps fs 0
steps-con c ps fs =
    ap (λ ts. Step.made_of c ts ∷ all_steps (side_by_side ps +++ fs) (length ps)) (front-joined ps fs) ∙
    ap (λ ss. Step.made_of c (side_by_side ps) ∷ ss) (steps-behind ps fs)

-- ---- target by target
pub record SteppedSoFar (ts : List code_term.Term) (i : ℕ) (all : List code_step.Step) : Type 0 where
  pub is : all_steps (all_terms ts) 0 ≡ map step_of all ++ all_steps (all_terms (drop i ts)) 0

pub none-stepped : (ts : List code_term.Term) → SteppedSoFar ts 0 []
none-stepped ts = record { is = refl }

pub one-stepped : (ts : List code_term.Term) (i : ℕ) (all more : List code_step.Step) (t : code_term.Term) →
    i < length ts → t ≡ get_or ts i t → map step_of more ≡ steps (term t) → SteppedSoFar ts i all →
    SteppedSoFar ts (i + 1) (all ++ more)
one-stepped ts i all more t h e m so = record {
  is =
      let rest = all_steps (all_terms (drop (i + 1) ts)) 0 in
      so.is ∙
      ap (λ ss. map step_of all ++ ss)
      (ap (λ xs. all_steps (all_terms xs) 0) (drop_more ts i t h ∙ ap (λ x. x ∷ drop (i + 1) ts) (sym e)) ∙
      ap (λ ss. ss ++ rest) (sym m)) ∙
      sym (append_assoc (map step_of all) (map step_of more) rest) ∙
      ap (λ ss. ss ++ rest) (sym (map-append step_of all more));
}

pub all-stepped : (ts : List code_term.Term) (i : ℕ) (all : List code_step.Step) → length ts ≤ i →
    SteppedSoFar ts i all → map step_of all ≡ all_steps (all_terms ts) 0
all-stepped ts i all h so =
    sym (so.is ∙ ap (λ xs. map step_of all ++ all_steps (all_terms xs) 0) (drop_all i ts h) ∙
    append-nil (map step_of all))

-- ---- step by step, from the way w
pub record LedSoFar (a : Aim) (ss : List code_step.Step) (w : Way) (i : ℕ) (fs : List code_frame.Frame) (v : Way) :
    Type 0 where
  pub is : (next : Way → Term) →
      along a (map step_of ss) w next ≡ wrapped a (map frame_of fs) (along a (map step_of (drop i ss)) v next)

pub none-led : (a : Aim) (ss : List code_step.Step) (w : Way) → LedSoFar a ss w 0 [] w
none-led a ss w = record { is = λ next. refl }

step-left : (ss : List code_step.Step) (i : ℕ) (s : code_step.Step) (x : Step) → i < length ss → s ≡ get_or ss i s →
    step_of s ≡ x → map step_of (drop i ss) ≡ x ∷ map step_of (drop (i + 1) ss)
step-left ss i s x h e d =
    ap (map step_of) (drop_more ss i s h ∙ ap (λ y. y ∷ drop (i + 1) ss) (sym e)) ∙
    ap (λ y. y ∷ map step_of (drop (i + 1) ss)) d

pub one-passed : (a : Aim) (ss : List code_step.Step) (w : Way) (i : ℕ) (fs : List code_frame.Frame) (v u : Way)
    (s : code_step.Step) (x : ℕ) → i < length ss → s ≡ get_or ss i s → step_of s ≡ Step.at x →
    u ≡ at_variable x v → LedSoFar a ss w i fs v → LedSoFar a ss w (i + 1) fs u
one-passed a ss w i fs v u s x h e d g so = record {
  is = λ next.
      so.is next ∙
      ap (wrapped a (map frame_of fs))
      (ap (λ ys. along a ys v next) (step-left ss i s (Step.at x) h e d) ∙
      ap (λ y. along a (map step_of (drop (i + 1) ss)) y next) (sym g));
}

pub one-framed : (K : Entries) (a : Aim) (ss : List code_step.Step) (w : Way) (i : ℕ) (fs : List code_frame.Frame)
    (v u : Way) (s : code_step.Step) (f : code_frame.Frame) → a.env ≡ env K → i < length ss → s ≡ get_or ss i s →
    step_of s ≡ Step.made_of f.con (all_terms f.params.now) → (frame_of f).way ≡ v →
    u ≡ inside K (frame_of f) → LedSoFar a ss w i fs v → LedSoFar a ss w (i + 1) (fs ++ f ∷ []) u
one-framed K a ss w i fs v u s f same h e d at g so = record {
  is = λ next.
      let x = frame_of f in
      let rest = map step_of (drop (i + 1) ss) in
      so.is next ∙
      ap (wrapped a (map frame_of fs))
      (ap (λ ys. along a ys v next) (step-left ss i s (Step.made_of f.con (all_terms f.params.now)) h e d) ∙
      ap (λ y. along a (Step.made_of x.con x.params ∷ rest) y next) (sym at) ∙
      own-along K a x.way x.con x.params rest next same ∙
      ap (λ y. case_in a x (along a rest y next)) (sym g)) ∙
      sym (wrapped-more a (map frame_of fs) x (along a rest u next)) ∙
      ap (λ ys. wrapped a ys (along a rest u next)) (sym (map-append frame_of fs (f ∷ [])));
}

pub all-led : (a : Aim) (ss : List code_step.Step) (w : Way) (i : ℕ) (fs : List code_frame.Frame) (v : Way) →
    length ss ≤ i → LedSoFar a ss w i fs v → Leads a (map step_of ss) w (map frame_of fs) v
all-led a ss w i fs v h so next =
    so.is next ∙ ap (λ xs. wrapped a (map frame_of fs) (along a (map step_of xs) v next)) (drop_all i ss h)
