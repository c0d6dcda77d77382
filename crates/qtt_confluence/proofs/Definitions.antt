-- Heads and comparisons read definitions alone: over environments with the same definitions each list of them ends
-- in the same way.
use Rattle.std.proofs.Common.{◌≡◌, ℕ, zero, suc, false, List, [], ◌∷◌, ◌&&◌, not, cond, Option, Some, None, refl, ap, sym, subst, ◌∙◌}
use mathlib.Core.Path.{fun_ext}
use Rattle.qtt_base.specs.declared.place.GlobalId.{GlobalId}
use Rattle.qtt_term.specs.Term.{Named, Form, Term, Terms, var, node, ε, ◌▸◌}
use Rattle.qtt_term.specs.Signature.{Family, Definition, Env}
use Rattle.qtt_term.specs.Contraction.{contract, as_lit, Step, Steps, Conv}
use Rattle.qtt_term.specs.Question as question
use Rattle.qtt_term.specs.Question.{either, wrap, argument_step, asked, head_step, step_at, arguments_step, head_from, Item, of_heads, same, Move, Answer, move, follow, answer, weight_of, within_count, compare}
use Rattle.qtt_term.specs.Ask.{Ask, Question, Ending, Ends, within, on_head, on_answer, NoReading}
use Rattle.qtt_confluence.specs.Lists.{QuestionsReadDefinitions, ListsReadDefinitions}

module _ (a b : GlobalId → Option Family) (d : GlobalId → Option Definition) where
  abbrev E : Env
  E = record { family = a; definition = d }

  abbrev H : Env
  H = record { family = b; definition = d }

  contract-same : (F : Form) (ts : Terms) → contract E F ts ≡ contract H F ts
  unfolding contract
  contract-same (Form.named (Named.def g)) ε = refl
  contract-same (Form.named (Named.def g)) (t ▸ ts) = refl
  contract-same (Form.named (Named.lit l)) ts = refl
  contract-same (Form.named (Named.prim_ty p)) ts = refl
  contract-same (Form.named (Named.prim p)) ts = refl
  contract-same (Form.named (Named.act a k)) ts = refl
  contract-same (Form.sort l) ts = refl
  contract-same (Form.pi q) ts = refl
  contract-same (Form.lam q) ts = refl
  contract-same (Form.app q) ts = refl
  contract-same (Form.fam f) ts = refl
  contract-same (Form.con f c k) ts = refl
  contract-same (Form.case q f k m ns) ts = refl
  contract-same (Form.delete q) ts = refl
  contract-same Form.trap ts = refl
  contract-same (Form.tape n) ts = refl

  mutual
    head-same : (t : Term) → head_step E t ≡ head_step H t
    head-same (var i) = refl
    head-same (node F ts) =
        ap (λ o. either o (wrap (node F) (asked F (step_at E ts) (arguments_step E ts)))) (contract-same F ts)
        ∙ ap (λ g. either (contract H F ts) (wrap (node F) (asked F g (arguments_step E ts))))
        (fun_ext λ n. steps-same ts n)
        ∙ ap (λ o. either (contract H F ts) (wrap (node F) (asked F (step_at H ts) o))) (arguments-same ts)

    steps-same : (ts : Terms) (n : ℕ) → step_at E ts n ≡ step_at H ts n
    steps-same ε n = refl
    steps-same (t ▸ ts) zero = ap (wrap (λ s. s ▸ ts)) (head-same t)
    steps-same (t ▸ ts) (suc n) = ap (wrap (λ ss. t ▸ ss)) (steps-same ts n)

    arguments-same : (ts : Terms) → arguments_step E ts ≡ arguments_step H ts
    arguments-same ε = refl
    arguments-same (t ▸ ts) =
        ap (λ o. argument_step (as_lit t) t ts o (arguments_step E ts)) (head-same t)
        ∙ ap (λ o. argument_step (as_lit t) t ts (head_step H t) o) (arguments-same ts)

  from-same : (n made : ℕ) (t : Term) → head_from E n made t ≡ head_from H n made t
  from-same zero made t =
      ap (λ (o : Option Term). elim o [ None ↦ question.Head.done t made | Some s ↦ question.Head.spent ]) (head-same t)
  from-same (suc n) made t =
      ap (λ (o : Option Term). elim o [ None ↦ question.Head.done t made | Some s ↦ head_from E n (suc made) s ])
      (head-same t)
      ∙ ap (λ (g : Term → question.Head). elim (head_step H t) [ None ↦ question.Head.done t made | Some s ↦ g s ])
      (fun_ext λ s. from-same n (suc made) s)

  move-same : (i : Item) → move E i ≡ move H i
  move-same i =
      ap (λ o. cond (not i.tested && same i.left i.right) (Move.splits []) (of_heads o (head_step E i.right) i))
      (head-same i.left)
      ∙ ap (λ o. cond (not i.tested && same i.left i.right) (Move.splits []) (of_heads (head_step H i.left) o i))
      (head-same i.right)

  answer-same : (next : List Item → Answer) (s : ℕ) (is : List Item) → answer E next s is ≡ answer H next s is
  answer-same next s [] = refl
  answer-same next zero (i ∷ is) = refl
  answer-same next (suc s) (i ∷ is) =
      ap (λ m. follow m i is (λ js. answer E next s js) next) (move-same i)
      ∙ ap (λ g. follow (move H i) i is g next) (fun_ext λ js. answer-same next s js)

  within-same : (n : ℕ) (is : List Item) → within_count E n is ≡ within_count H n is
  within-same zero is = answer-same (λ js. Answer.spent) (weight_of is) is
  within-same (suc n) is = answer-same (within_count E n) (weight_of is) is
      ∙ ap (λ g. answer H g (weight_of is) is) (fun_ext λ js. within-same n js)

  compare-same : (n : ℕ) (t s : Term) → compare E n t s ≡ compare H n t s
  compare-same n t s = within-same n (record { tested = false; path = []; left = t; right = s } ∷ [])

  mutual
    step-same : {t s : Term} → Step E t s → Step H t s
    step-same (Step.here {F = F} {ts = ts} e) = Step.here (sym (contract-same F ts) ∙ e)
    step-same (Step.inside r) = Step.inside (all-same r)

    all-same : {ts ss : Terms} → Steps E ts ss → Steps H ts ss
    all-same (Steps.at r) = Steps.at (step-same r)
    all-same (Steps.after r) = Steps.after (all-same r)

  conv-same : {t s : Term} → Conv E t s → Conv H t s
  conv-same Conv.same = Conv.same
  conv-same (Conv.by_step r) = Conv.by_step (step-same r)
  conv-same (Conv.back c) = Conv.back (conv-same c)
  conv-same (Conv.thence c d) = Conv.thence (conv-same c) (conv-same d)

  same-ends : {F P A : Type 0} {m : Ask F P A} {e : Ending F P A} → NoReading m → Ends E m e → Ends H m e
  same-ends u Ends.is_done = Ends.is_done
  same-ends u Ends.has_failed = Ends.has_failed
  same-ends u (Ends.has_head {t = t} {h = x} h y) =
      Ends.has_head (record { bound = h.bound; made = h.made; is = sym (from-same h.bound 0 t) ∙ h.is })
      (same-ends (u x) y)
  same-ends u (Ends.has_reading h y) = absurd u
  same-ends u (Ends.are_equal c x) = Ends.are_equal (conv-same c) (same-ends u.0 x)
  same-ends u (Ends.are_different {t = t} {s = s} r x) =
      Ends.are_different (record { bound = r.bound; path = r.path; is = sym (compare-same r.bound t s) ∙ r.is })
      (same-ends u.1 x)

  ask-same : {F P A : Type 0} (n : ℕ) (m : Ask F P A) → NoReading m → within E n m ≡ within H n m
  unfolding within
  ask-same n (Ask.done x) u = refl
  ask-same n (Ask.fail f) u = refl
  ask-same n (Ask.head p k t g) u =
      ap (λ o. on_head o (λ h. within E n (g h)) (Ending.spent p (Question.head_of k t))) (from-same n 0 t)
      ∙ ap (λ f. on_head (head_from H n 0 t) f (Ending.spent p (Question.head_of k t)))
      (fun_ext λ h. ask-same n (g h) (u h))
  ask-same n (Ask.read p k t g) u = absurd u
  ask-same n (Ask.compare p k t s m w) u =
      ap (λ o. on_answer o (within E n m) (within E n w) (Ending.spent p (Question.compared k t s)))
      (compare-same n t s)
      ∙ ap (λ x. on_answer (compare H n t s) x (within E n w) (Ending.spent p (Question.compared k t s)))
      (ask-same n m u.0)
      ∙ ap (λ x. on_answer (compare H n t s) (within H n m) x (Ending.spent p (Question.compared k t s)))
      (ask-same n w u.1)

  questions-same : QuestionsReadDefinitions E H
  questions-same = record {
    heads = λ n t. from-same n 0 t;
    comparisons = compare-same;
    conversion = λ t s c. conv-same c;
  }

  lists-same : (F P A : Type 0) → ListsReadDefinitions F P A E H
  lists-same F P A = record { within = λ n m u. ask-same n m u; ends = λ m e u x. same-ends u x }

-- over environments whose definitions are the same, by their ids
onto : (E D : Env) (X : Env → Env → Type 0) →
    ((a b : GlobalId → Option Family) (d : GlobalId → Option Definition) →
    X (record { family = a; definition = d }) (record { family = b; definition = d })) →
    ((d : GlobalId) → E.definition d ≡ D.definition d) → X E D
onto E D X same e =
    subst (λ d. X E (record { family = D.family; definition = d })) (fun_ext e)
    (same E.family D.family E.definition)

pub questions-read_definitions : (E D : Env) → ((d : GlobalId) → E.definition d ≡ D.definition d) →
    QuestionsReadDefinitions E D
questions-read_definitions E D = onto E D QuestionsReadDefinitions questions-same

pub lists-read_definitions : (F P A : Type 0) (E D : Env) → ((d : GlobalId) → E.definition d ≡ D.definition d) →
    ListsReadDefinitions F P A E D
lists-read_definitions F P A E D = onto E D (ListsReadDefinitions F P A) (λ a b d. lists-same a b d F P A)
