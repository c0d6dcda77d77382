-- Ranks of modules, judged one after another.
use Rattle.std.proofs.Common.{◌≡◌, ℕ, suc, ◌+◌, ◌≤◌, List, [], ◌∷◌, map, length, Result, Ok, Err, Some, None, Option, refl, sym, ap, ◌∙◌, subst, arith}
use Rattle.std.specs.Prelude.{slice_get, Vec}
use Rattle.std.specs.Global.{Global}
use Rattle.std.proofs.lemmas.List.{length-append}
use Rattle.std.specs.List.{cons_option}
use Rattle.qtt_base.specs.declared.place.ModuleId.{ModuleId}
use Rattle.qtt_syntax.specs.declared.module.ModuleText.{ModuleText}
use Rattle.qtt_syntax.specs.Tree.{Module}
use Rattle.qtt_syntax.specs.View.{module_of}
use Rattle.qtt_module.specs.declared.errors.ModuleError.{ModuleError}
use Rattle.qtt_module.specs.declared.errors.ModuleError.TheVariants as error
use Rattle.qtt_module.specs.Refused.{Refused, refused_of, Answer, ◌>>=◌}
use Rattle.qtt_module.specs.Answer.{Gives}
use Rattle.qtt_module.specs.Text.{Accepted}
use Rattle.qtt_build.specs.declared.building.Building.{Building}
use Rattle.qtt_build.specs.Built.{Built, nothing_yet, numbered, answers, all_accepted, judged_rank, with_rank, built_by_rank}
use Rattle.qtt_build.specs.Build.{modules_at}
use Rattle.qtt_build.specs.Answer.{Task, tasks_from, answer_to, answers_to, accepted_list, building_of, places_of, total}
use Rattle.qtt_build.specs.Parts.{OnlyBelow, NumberedFrom}
use Rattle.qtt_build.proofs.Declared.{rank-numbered}
use Rattle.qtt_build.proofs.Ranked.{both, rank-declared}

-- ---- a rank's answers, by its tasks
numbered-next : (k : ℕ) → numbered k ≡ record { 0 = k + 1 }
numbered-next k = ap (λ (i : ℕ). record { 0 = i }) (omega arith)

pub rank-answers : (n : ℕ) (B : Built) (k : ℕ) (ms : List Module) →
    answers_to n B (tasks_from (k + 1) ms) ≡ answers n B k ms
rank-answers n B k [] = refl
rank-answers n B k (m ∷ ms) =
    ap (λ (i : ModuleId). answer_to n B (record { id = i; text = m }) ∷ answers_to n B (tasks_from (k + 1 + 1) ms))
    (sym (numbered-next k))
    ∙ ap (λ (rs : List (Answer Accepted)). answer_to n B (record { id = numbered k; text = m }) ∷ rs)
    (ap (λ j. answers_to n B (tasks_from j ms)) (omega arith) ∙ rank-answers n B (suc k) ms)

-- ---- the next rank
pub no-rank : (n : ℕ) (B : Built) → built_by_rank n B [] ≡ Ok B
unfolding built_by_rank
no-rank n B = refl

pub next-rank : (n : ℕ) (B : Built) (ms : List Module) (more : List (List Module)) (As : List Accepted) →
    judged_rank n B ms ≡ Ok As → built_by_rank n (with_rank B As) more ≡ built_by_rank n B (ms ∷ more)
unfolding built_by_rank ◌>>=◌
next-rank n B ms more As e = sym (ap (λ m. m >>= λ Bs. built_by_rank n (with_rank B Bs) more) e)

pub rank-refused : (n : ℕ) (B : Built) (ms : List Module) (more : List (List Module)) (r : Refused) →
    judged_rank n B ms ≡ Err r → built_by_rank n B (ms ∷ more) ≡ Err r
unfolding built_by_rank ◌>>=◌
rank-refused n B ms more r e = ap (λ m. m >>= λ Bs. built_by_rank n (with_rank B Bs) more) e

-- the tasks of a rank are judged as the rank is
pub rank-judged : (n : ℕ) (B : Built) (k : ℕ) (ms : List Module) (ts : List Task) → ts ≡ tasks_from (k + 1) ms →
    k ≡ length B.order → all_accepted (answers_to n B ts) ≡ judged_rank n B ms
rank-judged n B k ms ts e h =
    ap (λ us. all_accepted (answers_to n B us)) e ∙ ap all_accepted (rank-answers n B k ms)
    ∙ ap (λ j. all_accepted (answers n B j ms)) h

-- ---- behind references stand the same texts and ranks
pub behind-references : (n : ℕ) (r : Result Building ModuleError) (ts us : List ModuleText)
    (ls ks : List (Vec ℕ Global)) →
    us ≡ ts → ks ≡ ls →
    Gives building_of r (built_by_rank n nothing_yet (map (modules_at (map module_of us)) (places_of ks))) →
    Gives building_of r (built_by_rank n nothing_yet (map (modules_at (map module_of ts)) (places_of ls)))
behind-references n r ts us ls ks e d h =
    subst (λ xs. Gives building_of r (built_by_rank n nothing_yet
    (map (modules_at (map module_of xs)) (places_of ls)))) e
    (subst (λ xs. Gives building_of r (built_by_rank n nothing_yet
    (map (modules_at (map module_of us)) (places_of xs)))) d h)

-- ---- a rank that is refused ends a build
pub stops : (e : ModuleError) (n : ℕ) (B : Built) (ms : List Module) (more : List (List Module))
    (whole : Answer Built) →
    Gives accepted_list (Err e) (judged_rank n B ms) → built_by_rank n B (ms ∷ more) ≡ whole →
    Gives building_of (Err e) whole
stops (error.Refused r) n B ms more whole h s = sym s ∙ rank-refused n B ms more (refused_of r) h
stops error.Memory n B ms more whole h s = tt

-- ---- how many are accepted
then_one : Accepted → List Accepted → Answer (List Accepted)
then_one A As = Ok (A ∷ As)

length-then : (A : Accepted) (k : ℕ) (As : List Accepted) (m : Answer (List Accepted)) →
    ((Bs : List Accepted) → m ≡ Ok Bs → length Bs ≡ k) → m >>= then_one A ≡ Ok As → length As ≡ suc k
unfolding ◌>>=◌ then_one
length-then A k As (Ok Bs) h e = let f : A ∷ Bs ≡ As = cc e in sym (ap length f) ∙ ap suc (h Bs refl)
length-then A k As (Err r) h e = absurd (let f : Err r ≡ Ok As = e in cc f)

length-taken : (rs : List (Answer Accepted)) (As : List Accepted) → all_accepted rs ≡ Ok As → length As ≡ length rs
unfolding all_accepted ◌>>=◌ then_one
length-taken [] As e = let h : [] ≡ As = (let f : Ok [] ≡ Ok As = e in cc f) in sym (ap length h)
length-taken (Ok A ∷ rs) As e = length-then A (length rs) As (all_accepted rs) (length-taken rs) e
length-taken (Err r ∷ rs) As e = absurd (let f : Err r ≡ Ok As = e in cc f)

length-answers : (n : ℕ) (B : Built) (k : ℕ) (ms : List Module) → length (answers n B k ms) ≡ length ms
length-answers n B k [] = refl
length-answers n B k (m ∷ ms) = ap suc (length-answers n B (suc k) ms)

length-at : (ms : List Module) (ps : List ℕ) → length (modules_at ms ps) ≤ length ps
length-at ms [] = omega arith
length-at ms (p ∷ ps) = by_get (slice_get ms p) (length-at ms ps)
  where
    by_get : (o : Option Module) → length (modules_at ms ps) ≤ length ps →
        length (cons_option o (modules_at ms ps)) ≤ suc (length ps)
    by_get (Some m) h = omega (arith, h)
    by_get None h = omega (arith, h)

pub few-accepted : (n : ℕ) (B : Built) (ms : List Module) (ps : List ℕ) (As : List Accepted) →
    judged_rank n B (modules_at ms ps) ≡ Ok As → length As ≤ length ps
few-accepted n B ms ps As e =
    omega (
      arith,
      length-taken (answers n B (length B.order) (modules_at ms ps)) As e,
      length-answers n B (length B.order) (modules_at ms ps),
      length-at ms ps,
    )

-- what a rank declares is numbered behind what is built
pub judged-numbered : (n : ℕ) (B : Built) (ms : List Module) (As : List Accepted) → judged_rank n B ms ≡ Ok As →
    OnlyBelow (suc (length B.order)) B.globals → NumberedFrom (suc (length B.order)) As
judged-numbered n B ms As e h =
    rank-numbered B (length B.order) ms As h (rank-declared n B (length B.order) ms As e)

-- ---- how many are built
abbrev then_ranks : ℕ → Built → List (List Module) → List Accepted → Answer Built
then_ranks n B more As = built_by_rank n (with_rank B As) more

pub few-built : (n : ℕ) (ms : List Module) (ps : List (List ℕ)) (B C : Built) →
    built_by_rank n B (map (modules_at ms) ps) ≡ Ok C → length C.order ≤ length B.order + total ps
unfolding built_by_rank
few-built n ms [] B C h =
    let e : B ≡ C = (let g : Ok B ≡ Ok C = h in cc g) in omega (arith, ap (λ (D : Built). length D.order) e)
few-built n ms (p ∷ ps) B C h =
    let b = both (judged_rank n B (modules_at ms p)) (then_ranks n B (map (modules_at ms) ps)) C h in
    omega (
      arith,
      few-built n ms ps (with_rank B b.value) C b.later,
      few-accepted n B ms p b.value b.first,
      length-append B.order b.value,
    )
