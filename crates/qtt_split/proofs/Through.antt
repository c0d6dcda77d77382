-- Targets that are gone through one after another.
use Rattle.std.proofs.Common.{◌≡◌, ◌∙◌, ℕ, zero, suc, ◌+◌, Bool, true, false, cond, eqb, List, [], ◌∷◌, ◌++◌, length, Option, Some, slice_get, refl, sym, ap, arith}
use mathlib.Core.Path.{fun_ext}
use Rattle.std.proofs.lemmas.Bool.{eqb-true}
use Rattle.qtt_base.specs.declared.place.GlobalId.{GlobalId}
use Rattle.qtt_usage.specs.Mult.{𝟘}
use Rattle.qtt_term.specs.declared.term.ConId.{ConId}
use Rattle.qtt_term.specs.Term.{Form, Term, Terms, var, node, ε, ◌▸◌, size, ◌+++◌, Sort, Pi, Lam, App}
use Rattle.qtt_term.specs.Signature.{Constructor, family_at}
use Rattle.qtt_term.specs.Entries.{Entries, env}
use Rattle.qtt_term.specs.Forms.{front}
use Rattle.qtt_split.specs.Branch.{raised, made}
use Rattle.qtt_split.specs.Constructors.{fields_of, fields_at}
use Rattle.qtt_split.specs.Motive.{Way, Aim, first_place, at_variable, scrutinee_type, indices_with, within_fields, fallback, index_branches, field_counts, case_on_index, through, through_all}
use Rattle.qtt_split.specs.Ways.{Step, steps, all_steps, along}

-- ---- the same as steps
along-joined : (a : Aim) (ss rs : List Step) (w : Way) (next : Way → Term) →
    along a (ss ++ rs) w next ≡ along a ss w (λ v. along a rs v next)
along-joined a [] rs w next = refl
along-joined a (Step.at i ∷ ss) rs w next = along-joined a ss rs (at_variable i w) next
along-joined a (Step.made_of c ps ∷ ss) rs w next =
    ap (case_on_index a w c.family ps c.place)
    (fun_ext (λ (n : ℕ). fun_ext (λ (con : Term). fun_ext (λ (v : Way).
    along-joined a ss rs (within_fields n con v) next))))

mutual
  pub through-steps : (a : Aim) (t : Term) (w : Way) (next : Way → Term) →
      through a t w next ≡ along a (steps t) w next
  through-steps a (var i) w next = refl
  through-steps a (node (Form.con e c k) ts) w next =
      ap (case_on_index a w e (front k ts) c)
      (fun_ext (λ (n : ℕ). fun_ext (λ (con : Term). fun_ext (λ (v : Way).
      all-through a ts k (within_fields n con v) next))))
  through-steps a (node (Form.sort l) ts) w next = refl
  through-steps a (node (Form.pi q) ts) w next = refl
  through-steps a (node (Form.lam q) ts) w next = refl
  through-steps a (node (Form.app q) ts) w next = refl
  through-steps a (node (Form.fam f) ts) w next = refl
  through-steps a (node (Form.case q f k j ns) ts) w next = refl
  through-steps a (node (Form.delete q) ts) w next = refl
  through-steps a (node (Form.named x) ts) w next = refl
  through-steps a (node Form.trap ts) w next = refl
  through-steps a (node (Form.tape l) ts) w next = refl

  pub all-through : (a : Aim) (ts : Terms) (k : ℕ) (w : Way) (next : Way → Term) →
      through_all a ts k w next ≡ along a (all_steps ts k) w next
  all-through a ε k w next = refl
  all-through a (t ▸ ts) (suc k) w next = all-through a ts k w next
  all-through a (t ▸ ts) zero w next =
      through-steps a t w (λ v. through_all a ts zero v next) ∙
      ap (along a (steps t) w) (fun_ext (λ (v : Way). all-through a ts zero v next)) ∙
      sym (along-joined a (steps t) (all_steps ts zero) w next)

-- ---- the index's own branch alone goes on
-- with so many fields
abbrev pub own_count : Entries → ConId → ℕ
own_count K c = length (fields_at K c.family c.place)

module _ (a : Aim) (w : Way) (e : GlobalId) (qs : Terms) (own : ℕ) (next : ℕ → Term → Way → Term) (n : ℕ) where
  abbrev own_term : Term
  own_term = made (record { family = e; place = own }) (raised w.depth qs) n

  abbrev alone : ℕ → Term → Way → Term
  alone m con v = next n own_term w

  -- the own constructor has n fields, where it is one of these
  abbrev Counted : ℕ → List Constructor → Type 0
  Counted c ds = (k : ℕ) (d : Constructor) → slice_get ds k ≡ Some d → c + k ≡ own → length d.fields ≡ n

  one-branch : (c : ℕ) (d : Constructor) (b : Bool) → eqb c own ≡ b → (c ≡ own → length d.fields ≡ n) →
      cond b (next (length d.fields) (made (record { family = e; place = c }) (raised w.depth qs) (length d.fields)) w)
      (fallback a.level)
      ≡ cond b (next n own_term w) (fallback a.level)
  one-branch c d true e1 h =
      let same : c ≡ own = eqb-true c own e1 in
      ap (λ x. next (length d.fields) (made (record { family = e; place = x }) (raised w.depth qs) (length d.fields)) w)
      same ∙
      ap (λ m. next m (made (record { family = e; place = own }) (raised w.depth qs) m) w) (h same)
  one-branch c d false e1 h = refl

  own-branches : (c : ℕ) (ds : List Constructor) (ts : Terms) → Counted c ds →
      index_branches a w e qs own next c ds ts ≡ index_branches a w e qs own alone c ds ts
  own-branches c [] ts h = refl
  own-branches c (d ∷ ds) ts h =
      let m = length d.fields in
      let A = scrutinee_type a.family a.params (m + w.depth)
      (indices_with m (made (record { family = e; place = c }) (raised w.depth qs) m) w) in
      ap (λ t. Lam 𝟘 A t ▸ index_branches a w e qs own next (suc c) ds ts)
      (one-branch c d (eqb c own) refl (λ (s : c ≡ own). h 0 d refl (omega (arith, s)))) ∙
      ap (λ us. Lam 𝟘 A (cond (eqb c own) (next n own_term w) (fallback a.level)) ▸ us)
      (own-branches (suc c) ds ts (λ k x g s. h (suc k) x g (omega (arith, s))))

  pub own-case : Counted 0 (family_at a.env e).constructors →
      case_on_index a w e qs own next ≡ case_on_index a w e qs own alone
  own-case h =
      ap (λ us. App 𝟘
      (node (Form.case 𝟘 e (size qs) 1 (field_counts (family_at a.env e).constructors))
      (raised w.depth qs
      +++ (Pi 𝟘 (scrutinee_type a.family a.params (suc w.depth) (indices_with 1 (var 0) w)) (Sort a.level) ▸ us)))
      (var w.scrutinee))
      (own-branches 0 (family_at a.env e).constructors (var (first_place w.places) ▸ ε) h)

counted : (ds : List Constructor) (own k : ℕ) (d : Constructor) → slice_get ds k ≡ Some d → k ≡ own →
    length d.fields ≡ length (fields_of (slice_get ds own))
counted ds own k d g s =
    ap (λ (o : Option Constructor). length (fields_of o)) (sym g ∙ ap (slice_get ds) s)

-- the parameters of a constructor that stands at the next target, and then through its fields
pub own-along : (K : Entries) (a : Aim) (w : Way) (c : ConId) (qs : Terms) (ss : List Step) (next : Way → Term) →
    a.env ≡ env K →
    along a (Step.made_of c qs ∷ ss) w next
    ≡ case_on_index a w c.family qs c.place
    (λ n con v. along a ss (within_fields (own_count K c) (made c (raised w.depth qs) (own_count K c)) w) next)
own-along K a w c qs ss next same =
    own-case a w c.family qs c.place (λ n con v. along a ss (within_fields n con v) next) (own_count K c)
    (λ k d g s. let k_is : k ≡ c.place = omega (arith, s) in
    counted (family_at a.env c.family).constructors c.place k d g k_is ∙
    ap (λ E. length (fields_of (slice_get (family_at E c.family).constructors c.place))) same)
