-- No Tape comes into motives and branches of a case tree.
use Rattle.std.proofs.Common.{ℕ, zero, suc, Bool, true, false, List, [], ◌∷◌, length, eqb, cond, ◌+◌}
use Rattle.qtt_base.specs.declared.place.GlobalId.{GlobalId}
use Rattle.qtt_usage.specs.declared.mult.Mult.{Mult}
use Rattle.qtt_term.specs.declared.term.ConId.{ConId}
use Rattle.qtt_term.specs.Term.{Form, Term, Terms, var, node, ε, ◌▸◌, size}
use Rattle.qtt_term.specs.Substitution.{ren, sub, shift, above}
use Rattle.qtt_term.specs.Signature.{Tele, Constructor}
use Rattle.qtt_term.specs.Judgement.{Ctx, type_at}
use Rattle.qtt_term.specs.Environment.{NoTape, NoTapes}
use Rattle.qtt_term.specs.Forms.{front}
use Rattle.qtt_split.specs.Branch.{put, put_all, raised, made, stands, bound_again, again}
use Rattle.qtt_split.specs.Motive.{pis, reverted_goal, fallback, Way, at_variable, scrutinee_type, indices_with, within_fields, Aim, index_branches, case_on_index, through, through_all, motive, deletion_motive, first_place}
use Rattle.qtt_accepted.specs.Tapeless.{TeleTapeless}
use Rattle.qtt_accepted.proofs.Tapes.{renamed, all-renamed, Clean, substituted, all-substituted, joined, above-clean, front-clean}

-- ---- what stands for variables
chosen : (b : Bool) (t s : Term) → NoTape t → NoTape s → NoTape (cond b t s)
chosen true t s h k = h
chosen false t s h k = k

pub put-clean : (x : ℕ) (a : Term) (δ : ℕ → Term) → NoTape a → Clean δ → Clean (put x a δ)
put-clean x a δ h c i = chosen (eqb i x) a (δ i) h (c i)

abbrev pub SolutionsTapeless : List (ℕ × Term) → Type 0
SolutionsTapeless [] = Unit {0}
SolutionsTapeless (e ∷ s) = NoTape e.1 × SolutionsTapeless s

pub put-all-clean : (s : List (ℕ × Term)) (δ : ℕ → Term) → SolutionsTapeless s → Clean δ → Clean (put_all s δ)
put-all-clean [] δ h c = c
put-all-clean (e ∷ s) δ h c = put-clean e.0 e.1 (put_all s δ) h.0 (put-all-clean s δ h.1 c)

pub raised-clean : (n : ℕ) (ts : Terms) → NoTapes ts → NoTapes (raised n ts)
raised-clean n ts h = all-renamed ts [] (shift n) h

pub made-clean : (c : ConId) (ps : Terms) (n : ℕ) → NoTapes ps → NoTape (made c ps n)
made-clean c ps n h = (λ x. x, joined (raised n ps) (above 0 n) (raised-clean n ps h) (above-clean 0 n))

pub stands-clean : (x : ℕ) (con : Term) (s : List (ℕ × Term)) (n : ℕ) → NoTape con → SolutionsTapeless s →
    Clean (stands x con s n)
stands-clean x con s n h k = put-clean x con _ h (put-all-clean s _ k (λ i. tt))

pub bound-clean : (rs : List (Mult × ℕ)) (δ : ℕ → Term) → Clean δ → Clean (bound_again rs δ)
bound-clean [] δ c = c
bound-clean (b ∷ rs) δ c = bound-clean rs (put b.1 (var 0) (λ i. ren suc (δ i)))
    (put-clean b.1 (var 0) (λ i. ren suc (δ i)) tt (λ i. renamed (δ i) suc (c i)))

-- ---- types of a context
pub type-clean : (Γ : Ctx) (i : ℕ) → TeleTapeless Γ → NoTape (type_at Γ i)
type-clean [] i h = tt
type-clean (b ∷ Γ) zero h = renamed b.1 suc h.0
type-clean (b ∷ Γ) (suc i) h = renamed (type_at Γ i) suc (type-clean Γ i h.1)

pub again-clean : (Γ : Ctx) (rs : List (Mult × ℕ)) (δ : ℕ → Term) → TeleTapeless Γ → Clean δ →
    TeleTapeless (again Γ rs δ)
again-clean Γ [] δ h c = tt
again-clean Γ (b ∷ rs) δ h c = (
  substituted (type_at Γ b.1) δ c (type-clean Γ b.1 h),
  again-clean Γ rs (put b.1 (var 0) (λ i. ren suc (δ i))) h
      (put-clean b.1 (var 0) (λ i. ren suc (δ i)) tt (λ i. renamed (δ i) suc (c i))),
)

pis-clean : (Θ : Tele) (A : Term) → TeleTapeless Θ → NoTape A → NoTape (pis Θ A)
pis-clean [] A h k = k
pis-clean (b ∷ Θ) A h k = (λ x. x, (h.0, (pis-clean Θ A h.1 k, tt)))

pub goal-clean : (Γ : Ctx) (rs : List (Mult × ℕ)) (A : Term) → TeleTapeless Γ → NoTape A →
    NoTape (reverted_goal Γ rs A)
goal-clean Γ rs A h k =
    pis-clean (again Γ rs var) (sub (bound_again rs var) A) (again-clean Γ rs var h (λ i. tt))
    (substituted A (bound_again rs var) (bound-clean rs var (λ i. tt)) k)

-- ---- motives
fallback-clean : (l : ℕ) → NoTape (fallback l)
fallback-clean zero = (λ x. x, tt)
fallback-clean (suc l) = (λ x. x, tt)

record WayTapeless (w : Way) : Type 0 where
  stands : Clean w.stands
  indices : NoTapes w.indices

scrutinee-clean : (f : GlobalId) (ps : Terms) (d : ℕ) (is : Terms) → NoTapes ps → NoTapes is →
    NoTape (scrutinee_type f ps d is)
scrutinee-clean f ps d is h k = (λ x. x, joined (raised d ps) is (raised-clean d ps h) k)

with-clean : (n : ℕ) (t : Term) (w : Way) → NoTape t → WayTapeless w → NoTapes (indices_with n t w)
with-clean n t w h k = all-substituted w.indices [] _ (put-clean (first_place w.places) t _ h (λ i. tt)) k.indices

variable-clean : (i : ℕ) (w : Way) → WayTapeless w → WayTapeless (at_variable i w)
variable-clean i w h = record {
  stands = put-clean i (var (first_place w.places)) w.stands tt h.stands;
  indices = h.indices;
}

fields-clean : (n : ℕ) (con : Term) (w : Way) → NoTape con → WayTapeless w → WayTapeless (within_fields n con w)
fields-clean n con w h k = record {
  stands = λ i. renamed (w.stands i) (shift (suc n)) (k.stands i);
  indices = raised-clean 1 (indices_with n con w) (with-clean n con w h k);
}

module _ (a : Aim) (params : NoTapes a.params) where
  branches-clean : (w : Way) (e : GlobalId) (qs : Terms) (own : ℕ) (next : ℕ → Term → Way → Term) → WayTapeless w →
      NoTapes qs → ((n : ℕ) (con : Term) → NoTape con → NoTape (next n con w)) → (c : ℕ) (ds : List Constructor)
      (ts : Terms) → NoTapes ts → NoTapes (index_branches a w e qs own next c ds ts)
  branches-clean w e qs own next k q h c [] ts x = x
  branches-clean w e qs own next k q h c (d ∷ ds) ts x =
      let n = length d.fields in
      let con = made (record { family = e; place = c }) (raised w.depth qs) n in
      let m = made-clean (record { family = e; place = c }) (raised w.depth qs) n (raised-clean w.depth qs q) in (
        (
          λ x. x,
          (
            scrutinee-clean a.family a.params (n + w.depth) (indices_with n con w) params (with-clean n con w m k),
            (chosen (eqb c own) (next n con w) (fallback a.level) (h n con m) (fallback-clean a.level), tt),
          ),
        ),
        branches-clean w e qs own next k q h (suc c) ds ts x,
      )

  case-clean : (w : Way) (e : GlobalId) (qs : Terms) (own : ℕ) (next : ℕ → Term → Way → Term) → WayTapeless w →
      NoTapes qs → ((n : ℕ) (con : Term) → NoTape con → NoTape (next n con w)) →
      NoTape (case_on_index a w e qs own next)
  case-clean w e qs own next k q h = (
    λ x. x,
    (
      (
        λ x. x,
        joined (raised w.depth qs) _ (raised-clean w.depth qs q) (
          (
            λ x. x,
            (
              scrutinee-clean a.family a.params (suc w.depth) (indices_with 1 (var 0) w) params
                  (with-clean 1 (var 0) w tt k),
              ((λ x. x, tt), tt),
            ),
          ),
          branches-clean w e qs own next k q h 0 _ (var (first_place w.places) ▸ ε) (tt, tt),
        ),
      ),
      (tt, tt),
    ),
  )

  mutual
    through-clean : (t : Term) (w : Way) (next : Way → Term) → NoTape t → WayTapeless w →
        ((v : Way) → WayTapeless v → NoTape (next v)) → NoTape (through a t w next)
    through-clean (var i) w next h k g = g (at_variable i w) (variable-clean i w k)
    through-clean (node (Form.con e c k) ts) w next h x g =
        case-clean w e (front k ts) c (λ n con v. through_all a ts k (within_fields n con v) next) x
        (front-clean k ts h.1)
        (λ n con m. through-all-clean ts k (within_fields n con w) next h.1 (fields-clean n con w m x) g)
    through-clean (node (Form.sort l) ts) w next h k g = g w k
    through-clean (node (Form.pi q) ts) w next h k g = g w k
    through-clean (node (Form.lam q) ts) w next h k g = g w k
    through-clean (node (Form.app q) ts) w next h k g = g w k
    through-clean (node (Form.fam f) ts) w next h k g = g w k
    through-clean (node (Form.case q f m n ns) ts) w next h k g = g w k
    through-clean (node (Form.delete q) ts) w next h k g = g w k
    through-clean (node (Form.named n) ts) w next h k g = g w k
    through-clean (node Form.trap ts) w next h k g = g w k
    through-clean (node (Form.tape n) ts) w next h k g = g w k

    through-all-clean : (ts : Terms) (k : ℕ) (w : Way) (next : Way → Term) → NoTapes ts → WayTapeless w →
        ((v : Way) → WayTapeless v → NoTape (next v)) → NoTape (through_all a ts k w next)
    through-all-clean ε k w next h x g = g w x
    through-all-clean (t ▸ ts) (suc k) w next h x g = through-all-clean ts k w next h.1 x g
    through-all-clean (t ▸ ts) zero w next h x g =
        through-clean t w _ h.0 x (λ v y. through-all-clean ts zero v next h.1 y g)

  pub motive-clean : (targets : Terms) (x : ℕ) (goal : Term) → NoTapes targets → NoTape goal →
      NoTape (motive a targets x goal)
  unfolding motive
  motive-clean targets x goal h k =
      through-all-clean targets 0 _ _ h (record { stands = λ i. tt; indices = above-clean 1 (size targets) })
      (λ v y. substituted goal _ (put-clean x (var v.scrutinee) v.stands tt y.stands) k)

pub deletion-motive-clean : (x : ℕ) (goal : Term) → NoTape goal → NoTape (deletion_motive x goal)
deletion-motive-clean x goal h = substituted goal _ (put-clean x (var 0) _ tt (λ i. tt)) h
