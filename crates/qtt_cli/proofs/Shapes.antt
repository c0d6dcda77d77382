-- What a request comes to, by its command, in the stages of the code.
use Rattle.std.proofs.Common.{◌≡◌, ◌∙◌, ℕ, List, [], codes, Ok, Err, refl, sym, ap}
use Rattle.qtt_graph.specs.Graph.{Name}
use Rattle.qtt_words.specs.Asked.{Work, Asked}
use Rattle.qtt_load.specs.Reading.{Texts, read_in}
use Rattle.qtt_build.specs.Built.{Built}
use Rattle.qtt_build.specs.Build.{build}
use Rattle.qtt_outcome.specs.Stop.{Answer, ◌>>=◌, of_build, no_holes, Runnable, runnable}
use Rattle.qtt_gen_load.specs.Texts.{generated_texts}
use Rattle.qtt_outcome.specs.Outcome.{Outcome, puts, check_text, core_text, run_outcome, run_of, counted_outcome, texts_for, root_of, built_for, put, worked}
use Rattle.qtt_cli.specs.Commands.{built_over, check_for, core_for, over_build, program_for, listed, code_for}

-- ---- a text that is put
abbrev pub shown : List ℕ → Answer Outcome
shown bytes = Ok (puts bytes)

-- ---- one stage behind the other, twice
regroup : {A B C : Type 0} (m : Answer A) (k : A → Answer B) (j : B → Answer C) →
    m >>= (λ a. k a >>= j) ≡ (m >>= k) >>= j
unfolding ◌>>=◌
regroup (Ok a) k j = refl
regroup (Err s) k j = refl

same-behind : {A B : Type 0} (m : Answer A) (k j : A → Answer B) → ((a : A) → k a ≡ j a) → m >>= k ≡ m >>= j
unfolding ◌>>=◌
same-behind (Ok a) k j e = e a
same-behind (Err s) k j e = refl

one-value : {A B C : Type 0} (m : Answer A) (f : A → B) (k : B → Answer C) →
    (m >>= (λ a. Ok (f a))) >>= k ≡ m >>= (λ a. k (f a))
unfolding ◌>>=◌
one-value (Ok a) f k = refl
one-value (Err s) f k = refl

-- ---- by the work that is asked for
abbrev at_work : Texts → List ℕ → Asked → Work → Answer Outcome
at_work texts input r w = do
  B ← of_build (build (read_in (texts_for texts w)) (root_of w) r.budget)
  put input r B w

worked-at : (texts : Texts) (input : List ℕ) (r : Asked) (w : Work) → r.work ≡ w →
    worked texts input r ≡ at_work texts input r w
unfolding worked
worked-at texts input r w e = ap (at_work texts input r) e

pub built-at : (texts : Texts) (r : Asked) (w : Work) → r.work ≡ w →
    built_for texts r ≡ built_over (root_of w) r.budget (texts_for texts w)
built-at texts r w e = ap (λ (v : Work). built_over (root_of v) r.budget (texts_for texts v)) e

puts-check : (input : List ℕ) (r : Asked) (root : Name) (B : Built) →
    put input r B (Work.check root) ≡ shown (check_text B)
unfolding put
puts-check input r root B = refl

pub shape-check : (texts : Texts) (input : List ℕ) (r : Asked) (root : Name) → r.work ≡ Work.check root →
    worked texts input r ≡ check_for root r.budget texts >>= shown
shape-check texts input r root e =
    worked-at texts input r (Work.check root) e
    ∙ same-behind (built_over root r.budget texts) (λ B. put input r B (Work.check root))
    (λ B. shown (check_text B)) (puts-check input r root)
    ∙ sym (one-value (built_over root r.budget texts) check_text shown)

puts-core : (input : List ℕ) (r : Asked) (root : Name) (B : Built) →
    put input r B (Work.core root) ≡ shown (core_text B root)
unfolding put
puts-core input r root B = refl

pub shape-core : (texts : Texts) (input : List ℕ) (r : Asked) (root : Name) → r.work ≡ Work.core root →
    worked texts input r ≡ core_for root r.budget texts >>= shown
shape-core texts input r root e =
    worked-at texts input r (Work.core root) e
    ∙ same-behind (built_over root r.budget texts) (λ B. put input r B (Work.core root))
    (λ B. shown (core_text B root)) (puts-core input r root)
    ∙ sym (one-value (built_over root r.budget texts) (λ B. core_text B root) shown)

-- what needs a program, behind its build
over-build-then : (root : Name) (n : ℕ) (B : Built) (k : Built × Runnable → Outcome) →
    no_holes B >>= (λ u. runnable n root B >>= (λ x. Ok (k (B, x)))) ≡ over_build root n B >>= (λ p. Ok (k p))
over-build-then root n B k =
    same-behind (no_holes B) (λ u. runnable n root B >>= (λ x. Ok (k (B, x))))
    (λ u. (runnable n root B >>= (λ x. Ok (B, x))) >>= (λ p. Ok (k p)))
    (λ u. sym (one-value (runnable n root B) (λ x. (B, x)) (λ p. Ok (k p))))
    ∙ regroup (no_holes B) (λ u. runnable n root B >>= (λ x. Ok (B, x))) (λ p. Ok (k p))

program-then : (root : Name) (n : ℕ) (texts : Texts) (k : Built × Runnable → Outcome) →
    built_over root n texts >>= (λ B. no_holes B >>= (λ u. runnable n root B >>= (λ x. Ok (k (B, x))))) ≡
    program_for root n texts >>= (λ p. Ok (k p))
program-then root n texts k =
    same-behind (built_over root n texts)
    (λ B. no_holes B >>= (λ u. runnable n root B >>= (λ x. Ok (k (B, x)))))
    (λ B. over_build root n B >>= (λ p. Ok (k p))) (λ B. over-build-then root n B k)
    ∙ regroup (built_over root n texts) (over_build root n) (λ p. Ok (k p))

puts-code : (input : List ℕ) (r : Asked) (root : Name) (B : Built) → put input r B (Work.code root)
    ≡ no_holes B >>= (λ u. runnable r.budget root B >>= (λ x. Ok (puts (listed (B, x)))))
unfolding put
puts-code input r root B = refl

pub shape-code : (texts : Texts) (input : List ℕ) (r : Asked) (root : Name) → r.work ≡ Work.code root →
    worked texts input r ≡ code_for root r.budget texts >>= shown
shape-code texts input r root e =
    worked-at texts input r (Work.code root) e
    ∙ same-behind (built_over root r.budget texts) (λ B. put input r B (Work.code root))
    (λ B. no_holes B >>= (λ u. runnable r.budget root B >>= (λ x. Ok (puts (listed (B, x)))))) (puts-code input r root)
    ∙ program-then root r.budget texts (λ p. puts (listed p))
    ∙ sym (one-value (program_for root r.budget texts) listed shown)

abbrev pub ran : Asked → List ℕ → Built × Runnable → Outcome
ran r input p = run_outcome (run_of r.steps p.0 p.1 input) []

puts-run : (input : List ℕ) (r : Asked) (root : Name) (B : Built) → put input r B (Work.run root)
    ≡ no_holes B >>= (λ u. runnable r.budget root B >>= (λ x. Ok (ran r input (B, x))))
unfolding put
puts-run input r root B = refl

pub shape-run : (texts : Texts) (input : List ℕ) (r : Asked) (root : Name) → r.work ≡ Work.run root →
    worked texts input r ≡ program_for root r.budget texts >>= (λ p. Ok (ran r input p))
shape-run texts input r root e =
    worked-at texts input r (Work.run root) e
    ∙ same-behind (built_over root r.budget texts) (λ B. put input r B (Work.run root))
    (λ B. no_holes B >>= (λ u. runnable r.budget root B >>= (λ x. Ok (ran r input (B, x))))) (puts-run input r root)
    ∙ program-then root r.budget texts (ran r input)

abbrev pub ran_counted : Asked → List ℕ → Built × Runnable → Outcome
ran_counted r input p = counted_outcome p.0 (run_of r.steps p.0 p.1 input)

puts-gen : (input : List ℕ) (r : Asked) (n : ℕ) (B : Built) → put input r B (Work.gen n)
    ≡ no_holes B >>= (λ u. runnable r.budget (codes "Main") B >>= (λ x. Ok (ran_counted r input (B, x))))
unfolding put
puts-gen input r n B = refl

pub shape-gen : (texts : Texts) (input : List ℕ) (r : Asked) (n : ℕ) → r.work ≡ Work.gen n →
    worked texts input r ≡
    program_for (codes "Main") r.budget (generated_texts n) >>= (λ p. Ok (ran_counted r input p))
shape-gen texts input r n e =
    worked-at texts input r (Work.gen n) e
    ∙ same-behind (built_over (codes "Main") r.budget (generated_texts n)) (λ B. put input r B (Work.gen n))
    (λ B. no_holes B >>= (λ u. runnable r.budget (codes "Main") B >>= (λ x. Ok (ran_counted r input (B, x)))))
    (puts-gen input r n)
    ∙ program-then (codes "Main") r.budget (generated_texts n) (ran_counted r input)
