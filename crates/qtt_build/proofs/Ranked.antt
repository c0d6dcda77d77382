-- What the judgement of ranks means: their modules declare what is built, or the first that is refused is told.
use Rattle.std.proofs.Common.{◌≡◌, ℕ, suc, ◌⊎◌, inl, inr, List, [], ◌∷◌, length, Ok, Err, refl, sym, ap, subst}
use Rattle.qtt_syntax.specs.Tree.{Module}
use Rattle.qtt_load.specs.Loading.{module_name}
use Rattle.qtt_module.specs.Refused.{Refused, Answer, ◌>>=◌}
use Rattle.qtt_module.specs.Text.{Accepted}
use Rattle.qtt_module.proofs.Judged.{texts_are_judged_holds}
use Rattle.qtt_build.specs.Built.{Built, numbered, imports_for, judged_at, answers, all_accepted, judged_rank, with_rank, built_by_rank}
use Rattle.qtt_build.specs.Judged.{DeclaresAt, RefusesAt, DeclaresRank, RefusesRank, DeclaresRanks, RefusesRanks}

-- ---- a value, and then another
pub record Both {A B : Type 0} (m : Answer A) (k : A → Answer B) (b : B) : Type 0 where
  pub value : A
  pub first : m ≡ Ok value
  pub later : k value ≡ Ok b

pub record Later {A B : Type 0} (m : Answer A) (k : A → Answer B) (r : Refused) : Type 0 where
  pub value : A
  pub first : m ≡ Ok value
  pub later : k value ≡ Err r

pub both : {A B : Type 0} (m : Answer A) (k : A → Answer B) (b : B) → m >>= k ≡ Ok b → Both m k b
unfolding ◌>>=◌
both (Ok a) k b h = record { value = a; first = refl; later = h }
both (Err r) k b h = absurd (cc h)

pub either : {A B : Type 0} (m : Answer A) (k : A → Answer B) (r : Refused) → m >>= k ≡ Err r →
    (m ≡ Err r) ⊎ Later m k r
unfolding ◌>>=◌
either (Ok a) k r h = inr (record { value = a; first = refl; later = h })
either (Err s) k r h = let e : s ≡ r = cc h in inl (ap (λ (r : Refused). Err r) e)

-- ---- many answers
abbrev then_one : Accepted → List Accepted → Answer (List Accepted)
then_one A As = Ok (A ∷ As)

abbrev then_more : List (Answer Accepted) → Accepted → Answer (List Accepted)
then_more rest A = all_accepted rest >>= then_one A

-- an answer and those behind it are all accepted
pub record Taken (a : Answer Accepted) (rest : List (Answer Accepted)) (As : List Accepted) : Type 0 where
  pub first : Accepted
  pub others : List Accepted
  pub is_first : a ≡ Ok first
  pub are_others : all_accepted rest ≡ Ok others
  pub are_all : As ≡ first ∷ others

pub taken : (a : Answer Accepted) (rest : List (Answer Accepted)) (As : List Accepted) →
    all_accepted (a ∷ rest) ≡ Ok As → Taken a rest As
unfolding all_accepted
taken a rest As h =
    let front = both a (then_more rest) As h in
    let back = both (all_accepted rest) (then_one front.value) As front.later in
    let e : front.value ∷ back.value ≡ As = (let g : Ok (front.value ∷ back.value) ≡ Ok As = back.later in cc g) in
    record {
      first = front.value;
      others = back.value;
      is_first = front.first;
      are_others = back.first;
      are_all = sym e;
    }

pub none-taken : (As : List Accepted) → all_accepted [] ≡ Ok As → As ≡ []
unfolding all_accepted
none-taken As h = let e : [] ≡ As = (let g : Ok [] ≡ Ok As = h in cc g) in sym e

-- the first is refused, or it is accepted and one behind it is refused
pub record Passed (a : Answer Accepted) (rest : List (Answer Accepted)) (r : Refused) : Type 0 where
  pub first : Accepted
  pub is_first : a ≡ Ok first
  pub refused : all_accepted rest ≡ Err r

never-refused : (A : Accepted) (m : Answer (List Accepted)) (r : Refused) → m >>= then_one A ≡ Err r → m ≡ Err r
unfolding ◌>>=◌
never-refused A (Ok As) r h = absurd (let g : Ok (A ∷ As) ≡ Err r = h in cc g)
never-refused A (Err s) r h = h

pub refused-first : (a : Answer Accepted) (rest : List (Answer Accepted)) (r : Refused) →
    all_accepted (a ∷ rest) ≡ Err r → (a ≡ Err r) ⊎ Passed a rest r
unfolding all_accepted
refused-first a rest r h = by_case (either a (then_more rest) r h)
  where
    by_case : (a ≡ Err r) ⊎ Later a (then_more rest) r → (a ≡ Err r) ⊎ Passed a rest r
    by_case (inl e) = inl e
    by_case (inr l) = inr (record {
      first = l.value;
      is_first = l.first;
      refused = never-refused l.value (all_accepted rest) r l.later;
    })

pub none-refused : (r : Refused) → all_accepted [] ≡ Err r → ⊥
unfolding all_accepted
none-refused r h = absurd (let g : ◌≡◌ {A = Answer (List Accepted)} (Ok []) (Err r) = h in cc g)

-- ---- a rank
module _ (n : ℕ) (B : Built) where
  declared-at : (k : ℕ) (m : Module) (A : Accepted) → judged_at n B k m ≡ Ok A → DeclaresAt B k m A
  declared-at k m A h =
      texts_are_judged_holds.accepted (numbered k) n (module_name m) (imports_for B.order m) B.globals m A h

  refused-at : (k : ℕ) (m : Module) (r : Refused) → judged_at n B k m ≡ Err r → RefusesAt n B k m r
  refused-at k m r h =
      texts_are_judged_holds.refused (numbered k) n (module_name m) (imports_for B.order m) B.globals m r h

  pub rank-declared : (k : ℕ) (ms : List Module) (As : List Accepted) → all_accepted (answers n B k ms) ≡ Ok As →
      DeclaresRank B k ms As
  rank-declared k [] As h = subst (DeclaresRank B k []) (sym (none-taken As h)) DeclaresRank.none
  rank-declared k (m ∷ ms) As h =
      let t = taken (judged_at n B k m) (answers n B (suc k) ms) As h in
      subst (DeclaresRank B k (m ∷ ms)) (sym t.are_all)
      (DeclaresRank.more (declared-at k m t.first t.is_first) (rank-declared (suc k) ms t.others t.are_others))

  pub rank-refused : (k : ℕ) (ms : List Module) (r : Refused) → all_accepted (answers n B k ms) ≡ Err r →
      RefusesRank n B k ms r
  rank-refused k [] r h = absurd (none-refused r h)
  rank-refused k (m ∷ ms) r h =
      by_case (λ e. rank-refused (suc k) ms r e)
      (refused-first (judged_at n B k m) (answers n B (suc k) ms) r h)
    where
      by_case : (all_accepted (answers n B (suc k) ms) ≡ Err r → RefusesRank n B (suc k) ms r) →
          (judged_at n B k m ≡ Err r) ⊎ Passed (judged_at n B k m) (answers n B (suc k) ms) r →
          RefusesRank n B k (m ∷ ms) r
      by_case later (inl e) = RefusesRank.here (refused-at k m r e)
      by_case later (inr p) = RefusesRank.behind (declared-at k m p.first p.is_first) (later p.refused)

-- ---- rank by rank
abbrev then_ranks : ℕ → Built → List (List Module) → List Accepted → Answer Built
then_ranks n B rest As = built_by_rank n (with_rank B As) rest

pub ranks-declared : (n : ℕ) (B C : Built) (ranks : List (List Module)) → built_by_rank n B ranks ≡ Ok C →
    DeclaresRanks B ranks C
unfolding built_by_rank
ranks-declared n B C [] h =
    let e : B ≡ C = (let g : Ok B ≡ Ok C = h in cc g) in subst (DeclaresRanks B []) e DeclaresRanks.built
ranks-declared n B C (rank ∷ rest) h =
    let b = both (judged_rank n B rank) (then_ranks n B rest) C h in
    DeclaresRanks.next (rank-declared n B (length B.order) rank b.value b.first)
    (ranks-declared n (with_rank B b.value) C rest b.later)

pub ranks-refused : (n : ℕ) (B : Built) (ranks : List (List Module)) (r : Refused) →
    built_by_rank n B ranks ≡ Err r → RefusesRanks n B ranks r
unfolding built_by_rank
ranks-refused n B [] r h = absurd (let g : Ok B ≡ Err r = h in cc g)
ranks-refused n B (rank ∷ rest) r h =
    by_case (λ As e. ranks-refused n (with_rank B As) rest r e)
    (either (judged_rank n B rank) (then_ranks n B rest) r h)
  where
    by_case : ((As : List Accepted) → built_by_rank n (with_rank B As) rest ≡ Err r →
        RefusesRanks n (with_rank B As) rest r) →
        (judged_rank n B rank ≡ Err r) ⊎ Later (judged_rank n B rank) (then_ranks n B rest) r →
        RefusesRanks n B (rank ∷ rest) r
    by_case later (inl e) = RefusesRanks.in_rank (rank-refused n B (length B.order) rank r e)
    by_case later (inr l) =
        RefusesRanks.above (rank-declared n B (length B.order) rank l.value l.first) (later l.value l.later)
