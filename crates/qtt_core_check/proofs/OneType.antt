-- A term has one type up to conversion, in whatever part it is judged.
use Rattle.std.proofs.Common.{◌≡◌, ℕ, max, List, [], ◌∷◌, length, refl, sym, ◌∙◌, ap, subst, arith}
use mathlib.Core.Path.{subst₂}
use Rattle.qtt_base.specs.declared.place.GlobalId.{GlobalId}
use Rattle.qtt_usage.specs.declared.mult.Mult.{Mult}
use Rattle.qtt_usage.specs.Uses.{Use}
use Rattle.qtt_term.specs.Term.{Form, zeros, binders, Term, Terms, var, node, ε, ◌▸◌, size, ◌+++◌, Sort}
use Rattle.qtt_term.specs.Substitution.{sub, subs, cons, push, above, closed}
use Rattle.qtt_term.specs.Signature.{Tele, ConSig, Env, fam_at, family_at, self_of}
use Rattle.qtt_term.specs.Contraction.{Conv, BodiesClosed}
use Rattle.qtt_term.specs.Judgement.{Ctx, Part, Judged, ParamsThenArgs, Branches, Cases, Rule, Typed, TypedAll}
use Rattle.qtt_term.proofs.Subst.{subs-append, subs-size}
use Rattle.qtt_confluence.specs.Injective.{Convs}
use Rattle.qtt_confluence.proofs.Facts.{types_are_injective}
use Rattle.qtt_confluence.proofs.Confluence.{convs-same, conv-inside, conv-sub, conv-fill, push-conv}
use Rattle.qtt_confluence.proofs.Families.{convs-split, newest-are, size-append}
use Rattle.qtt_preserve.proofs.Inverted.{inverted}
use Rattle.qtt_preserve.proofs.Iota.{is_con-one}
use Rattle.qtt_core_check.proofs.Branching.{motive-binds}

abbrev pub OneType : Env → Term → Type 0
OneType E t = (p r : Part) (Γ : Ctx) (A B : Term) (u w : Use) → Typed E p Γ t A u → Typed E r Γ t B w → Conv E A B

abbrev pub AllOneType : Env → Terms → Type 0
AllOneType E ε = Unit {0}
AllOneType E (t ▸ ts) = OneType E t × AllOneType E ts

-- the result of parameters and arguments is that of the whole list
result-is : {Ξ Θ : Tele} {σ : ℕ → Term} {ts : Terms} {js : List Judged} {S R : Term} →
    ParamsThenArgs Ξ Θ σ ts js S R → R ≡ sub (push ts σ) S
result-is (ParamsThenArgs.param a) = result-is a
result-is (ParamsThenArgs.done a) = refl

-- the parameters of a family at these indices
abbrev pub front : Env → GlobalId → (ℕ → Term) → Terms → Terms
front E f σ is = subs [] (push is σ) (above (length (family_at E f).indices) (length (family_at E f).params))

abbrev pub self_parts : Env → GlobalId → Terms
self_parts E f = above (length (family_at E f).indices) (length (family_at E f).params) +++ above 0
    (length (family_at E f).indices)

pub self-at : (E : Env) (f : GlobalId) (σ : ℕ → Term) (is : Terms) → size is ≡ length (family_at E f).indices →
    subs [] (push is σ) (self_parts E f) ≡ front E f σ is +++ is
self-at E f σ is e =
    let x = length (family_at E f).indices in
    subs-append (above x (length (family_at E f).params)) (above 0 x) (push is σ)
    ∙ ap (λ ts. front E f σ is +++ ts) (newest-are is σ x e)

pub indices-counted : (E : Env) (f : GlobalId) (s : Term) (is : Terms) →
    size (is +++ (s ▸ ε)) ≡ length (fam_at E f).motive → size is ≡ length (family_at E f).indices
indices-counted E f s is d = omega (arith, d, size-append is (s ▸ ε), motive-binds E f)

module _ (E : Env) (bodies : BodiesClosed E) where
  -- a family's type has one list of indices
  indices-agree : (f : GlobalId) (σ : ℕ → Term) (is ks : Terms) → size is ≡ length (family_at E f).indices →
      size ks ≡ length (family_at E f).indices →
      Conv E (sub (push is σ) (self_of f (family_at E f))) (sub (push ks σ) (self_of f (family_at E f))) → Convs E is ks
  indices-agree f σ is ks d e h =
      let k = above (length (family_at E f).indices) (length (family_at E f).params) in
      (convs-split (front E f σ is) (front E f σ ks) (subs-size k [] (push is σ) ∙ sym (subs-size k [] (push ks σ)))
      (subst₂ (Convs E) (self-at E f σ is d) (self-at E f σ ks e)
      ((types_are_injective E bodies).families f f _ _ h).1)).1

  one-motive : (f : GlobalId) (σ : ℕ → Term) (P s : Term) (is ks : Terms) →
      size (is +++ (s ▸ ε)) ≡ length (fam_at E f).motive → size (ks +++ (s ▸ ε)) ≡ length (fam_at E f).motive →
      Conv E (sub (push is σ) (fam_at E f).self) (sub (push ks σ) (fam_at E f).self) →
      Conv E (sub (push (is +++ (s ▸ ε)) var) P) (sub (push (ks +++ (s ▸ ε)) var) P)
  one-motive f σ P s is ks d e h =
      conv-fill bodies P (push (is +++ (s ▸ ε)) var) (push (ks +++ (s ▸ ε)) var)
      (push-conv (convs-join (indices-agree f σ is ks (indices-counted E f s is d) (indices-counted E f s ks e) h))
      var var (λ i. Conv.same))
    where
      convs-join : {is ks : Terms} → Convs E is ks → Convs E (is +++ (s ▸ ε)) (ks +++ (s ▸ ε))
      convs-join Convs.none = convs-same (s ▸ ε)
      convs-join (Convs.more h hs) = Convs.more h (convs-join hs)

  one-branches : {f : GlobalId} {q : Mult} {σ : ℕ → Term} {P : Term} {cs : List ConSig} {ns : List ℕ} {ts : Terms}
      {js ks : List Judged} {R T : Term} (p r : Part) (Γ : Ctx) →
      Branches (fam_at E f) q σ P cs ns ts js R → Branches (fam_at E f) q σ P cs ns ts ks T →
      TypedAll E p Γ ns ts js → TypedAll E r Γ ns ts ks → AllOneType E ts → Conv E R T
  one-branches p r Γ (Branches.each e a) (Branches.each d b) (TypedAll.more i h x hs) (TypedAll.more j k y ks) o =
      one-branches p r Γ a b hs ks o.1
  one-branches {f} {q} {σ} {P} p r Γ (Branches.scrutinee {s = s} is e) (Branches.scrutinee ks d)
      (TypedAll.more i h x hs) (TypedAll.more j k y ls) o =
      one-motive f σ P s is ks e d (o.0 _ _ Γ _ _ _ _ h k)

  one-cases : {f : GlobalId} {q : Mult} {Θ : Tele} {σ : ℕ → Term} {k m n : ℕ} {ns : List ℕ} {ts : Terms}
      {js ks : List Judged} {R T : Term} (p r : Part) (Γ : Ctx) →
      Cases (fam_at E f) q Θ σ k m ns ts js R → Cases (fam_at E f) q Θ σ k n ns ts ks T →
      TypedAll E p Γ (zeros k (m ∷ ns)) ts js → TypedAll E r Γ (zeros k (n ∷ ns)) ts ks →
      AllOneType E ts → Conv E R T
  one-cases p r Γ (Cases.param a) (Cases.param b) (TypedAll.more i h x hs) (TypedAll.more j k y ks) o =
      one-cases p r Γ a b hs ks o.1
  one-cases p r Γ (Cases.motive a) (Cases.motive b) (TypedAll.more i h x hs) (TypedAll.more j k y ks) o =
      one-branches p r Γ a b hs ks o.1

  -- the type that a rule gives is that of every derivation
  one-rule : {p : Part} {Γ : Ctx} {F : Form} {ts : Terms} {js : List Judged} {R : Term} {own : Use} →
      Rule E p F ts js R own → TypedAll E p Γ (binders F) ts js →
      AllOneType E ts → (r : Part) (C : Term) (w : Use) → Typed E r Γ (node F ts) C w → Conv E R C
  one-rule {Γ = Γ} (Rule.sort {l = l}) hs o r C w k = ((inverted E r Γ).sort l C w k).0
  one-rule {Γ = Γ} (Rule.pi {q = q} {A = A} {B = B} {i = i} {j = j})
      (TypedAll.more d hA f (TypedAll.more e hB g TypedAll.none)) o r C w k =
      let (a, b, y, z, kA, kB, c, u) = (inverted E r Γ).pi q A B C w k in
      let x : i ≡ a = (types_are_injective E bodies).sorts i a (o.0 _ _ _ _ _ _ _ hA kA) in
      let v : j ≡ b = (types_are_injective E bodies).sorts j b (o.1.0 _ _ _ _ _ _ _ hB kB) in
      subst₂ (λ i j. Conv E (Sort (max i j)) C) (sym x) (sym v) c
  one-rule {Γ = Γ} (Rule.lam {q = q} {A = A} {B = B} {b = b})
      (TypedAll.more d hA f (TypedAll.more e hb g TypedAll.none)) o r C w k =
      let (i, D, y, z, kA, kb, v, c, u) = (inverted E r Γ).lam q A b C w k in
      Conv.thence (conv-inside (Convs.more Conv.same (Convs.more (o.1.0 _ _ _ _ _ _ _ hb kb) Convs.none))) c
  one-rule {Γ = Γ} (Rule.app {q = q} {A = A} {B = B} {f = f} {a = a}) (TypedAll.more d hf x hs) o r C w k =
      let (D, B', y, z, kf, ka, c, u) = (inverted E r Γ).app q f a C w k in
      Conv.thence (conv-sub bodies ((types_are_injective E bodies).functions q q A B D B' (o.0 _ _ _ _ _ _ _ hf kf)).2
      (cons a var)) c
  one-rule {Γ = Γ} (Rule.fam {f = f} {ts = ts} {R = R} h a) hs o r C w k =
      let (js, T, t, b, ks, c, u) = (inverted E r Γ).family f ts C w k in
      subst (λ X. Conv E X C) (result-is b ∙ sym (result-is a)) c
  one-rule {Γ = Γ} (Rule.con {f = f} {n = n} {ts = ts} {R = R} i a) hs o r C w k =
      let (d, js, T, j, e, b, ks, c, u) = (inverted E r Γ).constructor f n _ ts C w k in
      subst (λ X. Conv E X C) (result-is b ∙ ap (λ d. sub (push ts closed) d.result) (sym (is_con-one i j))
      ∙ sym (result-is a)) c
  one-rule {p = p} {Γ = Γ} (Rule.case {q = q} {f = f} {k = k} {m = m} {ns = ns} {ts = ts} h x a) hs o r C w d =
      let (js, T, t, y, b, ks, c, u) = (inverted E r Γ).case q f k m ns ts C w d in
      Conv.thence (one-cases p r Γ a b hs ks o) c
  one-rule {Γ = Γ} (Rule.delete {q = q} {A = A} {s = s} {P = P} {b = b} {e = e} x) hs o r C w k =
      let (l, u₁, u₂, u₃, y, z, m, h₁, h₂, h₃, h₄, h₅, c, u) = (inverted E r Γ).delete q A s P b e C w k in c
  one-rule {Γ = Γ} (Rule.named {n = n} {ts = ts} h x a) hs o r C w k = ((inverted E r Γ).named n ts C w k).5
  one-rule {Γ = Γ} (Rule.trap {A = A}) hs o r C w k = ((inverted E r Γ).trap A C w k).3
  one-rule {Γ = Γ} (Rule.tape {n = n}) hs o r C w k = ((inverted E r Γ).tape n C w k).0

  mutual
    pub one-type : (t : Term) → OneType E t
    one-type (var i) p r Γ A B u w h k =
        let a = (inverted E p Γ).variable i A u h in
        let b = (inverted E r Γ).variable i B w k in
        Conv.thence (Conv.back a.2) b.2
    one-type (node F ts) p r Γ A B u w h k =
        let (js, R, own, rule, hs, c, e) = (inverted E p Γ).form F ts A u h in
        Conv.thence (Conv.back c) (one-rule rule hs (all-one-type ts) r B w k)

    all-one-type : (ts : Terms) → AllOneType E ts
    all-one-type ε = tt
    all-one-type (t ▸ ts) = (one-type t, all-one-type ts)
