-- Terms under further binders, and ways that are gone.
use Rattle.std.proofs.Common.{◌≡◌, ◌∙◌, ℕ, suc, ◌+◌, ◌<◌, List, [], ◌∷◌, ◌++◌, length, get_or, map, take, refl, sym, ap, arith, append_assoc}
use mathlib.Core.Path.{fun_ext}
use Rattle.std.proofs.lemmas.List.{map-append, take_more}
use Rattle.qtt_term.specs.declared.term.Term as code
use Rattle.qtt_term.specs.declared.term.ConId.{ConId}
use Rattle.qtt_term.specs.Term.{Form, Term, Terms, var, node, ε, ◌▸◌, size, ◌+++◌}
use Rattle.qtt_term.specs.Substitution.{ren, sub, subs, shift, above}
use Rattle.qtt_term.specs.Shift as shifting
use Rattle.qtt_term.specs.View.{term, terms, side_by_side}
use Rattle.qtt_term.proofs.Moves.{shift-add, raised-zero}
use Rattle.qtt_term.proofs.Shaped.{size_side_by_side}
use Rattle.qtt_unify.specs.View.{all_terms}
use Rattle.qtt_split.specs.Branch.{raised, made}
use Rattle.qtt_split.specs.Motive.{Way, field_places}
use Rattle.qtt_split.proofs.Gluing.{joined-joined}

-- ---- components
pub all-behind : (vs : List code.Term) (v : code.Term) → all_terms (vs ++ v ∷ []) ≡ all_terms vs +++ (term v ▸ ε)
all-behind [] v = refl
all-behind (w ∷ vs) v = ap (λ ts. term w ▸ ts) (all-behind vs v)

pub one-behind : (vs : List code.Term) (v : code.Term) (ts : Terms) →
    all_terms (vs ++ v ∷ []) +++ ts ≡ all_terms vs +++ (term v ▸ ts)
one-behind vs v ts = ap (λ us. us +++ ts) (all-behind vs v) ∙ joined-joined (all_terms vs) (term v ▸ ε) ts

pub all-joined : (vs us : List code.Term) → all_terms (vs ++ us) ≡ all_terms vs +++ all_terms us
all-joined [] us = refl
all-joined (v ∷ vs) us = ap (λ ts. term v ▸ ts) (all-joined vs us)

-- each term under a substitution
pub subs-behind : (σ : ℕ → Term) (vs : List code.Term) (v : code.Term) →
    subs [] σ (all_terms (vs ++ v ∷ [])) ≡ subs [] σ (all_terms vs) +++ (sub σ (term v) ▸ ε)
subs-behind σ [] v = refl
subs-behind σ (w ∷ vs) v = ap (λ ts. sub σ (term w) ▸ ts) (subs-behind σ vs v)

pub raised-behind : (n : ℕ) (vs : List code.Term) (v : code.Term) →
    raised n (all_terms (vs ++ v ∷ [])) ≡ raised n (all_terms vs) +++ (ren (shift n) (term v) ▸ ε)
raised-behind n [] v = refl
raised-behind n (w ∷ vs) v = ap (λ ts. ren (shift n) (term w) ▸ ts) (raised-behind n vs v)

-- one more of a list
pub one-raised : (n : ℕ) (vs done : List code.Term) (i : ℕ) (v u : code.Term) → i < length vs → v ≡ get_or vs i v →
    term u ≡ ren (shifting.raised 0 n) (term v) → all_terms done ≡ raised n (all_terms (take i vs)) →
    all_terms (done ++ u ∷ []) ≡ raised n (all_terms (take (i + 1) vs))
one-raised n vs done i v u h e r so =
    all-behind done u ∙
    ap (λ ts. ts +++ (term u ▸ ε)) so ∙
    ap (λ t. raised n (all_terms (take i vs)) +++ (t ▸ ε)) (r ∙ raised-zero n (term v)) ∙
    sym (raised-behind n (take i vs) v) ∙
    sym (ap (λ xs. raised n (all_terms xs)) (take_more vs i v h ∙ ap (λ x. take i vs ++ x ∷ []) (sym e)))

pub one-put : (σ : ℕ → Term) (vs done : List code.Term) (i : ℕ) (v u : code.Term) → i < length vs →
    v ≡ get_or vs i v → term u ≡ sub σ (term v) → all_terms done ≡ subs [] σ (all_terms (take i vs)) →
    all_terms (done ++ u ∷ []) ≡ subs [] σ (all_terms (take (i + 1) vs))
one-put σ vs done i v u h e r so =
    all-behind done u ∙
    ap (λ ts. ts +++ (term u ▸ ε)) so ∙
    ap (λ t. subs [] σ (all_terms (take i vs)) +++ (t ▸ ε)) r ∙
    sym (subs-behind σ (take i vs) v) ∙
    sym (ap (λ xs. subs [] σ (all_terms xs)) (take_more vs i v h ∙ ap (λ x. take i vs ++ x ∷ []) (sym e)))

pub size-raised : (n : ℕ) (ts : Terms) → size (raised n ts) ≡ size ts
size-raised n ε = refl
size-raised n (t ▸ ts) = ap suc (size-raised n ts)

-- ---- variables
pub one-above : (m k : ℕ) (vs : List code.Term) (v : code.Term) → term v ≡ var (m + k) →
    all_terms vs +++ above m (suc k) ≡ all_terms (vs ++ v ∷ []) +++ above m k
one-above m k vs v e =
    ap (λ i. all_terms vs +++ (var i ▸ above m k)) (shift-add m k) ∙
    ap (λ t. all_terms vs +++ (t ▸ above m k)) (sym e) ∙ sym (one-behind vs v (above m k))

pub none-behind : (ts : Terms) → ts +++ ε ≡ ts
none-behind ε = refl
none-behind (t ▸ ts) = ap (λ xs. t ▸ xs) (none-behind ts)

pub all-above : (m k : ℕ) (vs : List code.Term) → above m k ≡ all_terms vs +++ ε → all_terms vs ≡ above m k
all-above m k vs e = sym (e ∙ none-behind (all_terms vs))

-- ---- a constructor of fields
pub made-seen : (c : ConId) (ps qs : List code.Term) (n : ℕ) (fs : Terms) → all_terms ps ≡ raised n (all_terms qs) →
    fs ≡ above 0 n →
    node (Form.con c.family c.place (length (terms ps))) (side_by_side (terms ps) +++ fs) ≡ made c (all_terms qs) n
made-seen c ps qs n fs d e =
    let count : length (terms ps) ≡ size (all_terms qs) =
    sym (size_side_by_side (terms ps)) ∙ ap size d ∙ size-raised n (all_terms qs) in
    ap (λ k. node (Form.con c.family c.place k) (all_terms ps +++ fs)) count ∙
    ap (λ ts. node (Form.con c.family c.place (size (all_terms qs))) (ts +++ fs)) d ∙
    ap (λ ts. node (Form.con c.family c.place (size (all_terms qs))) (raised n (all_terms qs) +++ ts)) e

-- ---- places
pub one-place : (k : ℕ) (ps : List ℕ) (p : ℕ) → p ≡ k + 1 →
    ps ++ field_places 1 (suc k) ≡ (ps ++ p ∷ []) ++ field_places 1 k
one-place k ps p e =
    let s : suc k ≡ k + 1 = omega arith in
    ap (λ x. ps ++ x ∷ field_places 1 k) (s ∙ sym e) ∙ sym (append_assoc ps (p ∷ []) (field_places 1 k))

pub one-further : (n : ℕ) (front ps behind : List ℕ) (i q : ℕ) → i < length behind →
    q ≡ get_or behind i 0 + (n + 1) → ps ≡ front ++ map (shift (suc n)) (take i behind) →
    ps ++ q ∷ [] ≡ front ++ map (shift (suc n)) (take (i + 1) behind)
one-further n front ps behind i q h s so =
    let p = get_or behind i 0 in
    let sum : q ≡ suc n + p = omega (arith, s) in
    ap (λ xs. xs ++ q ∷ []) so ∙
    append_assoc front (map (shift (suc n)) (take i behind)) (q ∷ []) ∙
    ap (λ x. front ++ (map (shift (suc n)) (take i behind) ++ x ∷ [])) (sum ∙ sym (shift-add (suc n) p)) ∙
    ap (λ xs. front ++ xs) (sym (map-append (shift (suc n)) (take i behind) (p ∷ []))) ∙
    ap (λ xs. front ++ map (shift (suc n)) xs) (sym (take_more behind i 0 h))

-- ---- ways
abbrev pub way : ℕ → (ℕ → Term) → Terms → List ℕ → ℕ → Way
way d σ is ps x = record { depth = d; stands = σ; indices = is; places = ps; scrutinee = x }

pub same-way : (d e : ℕ) (σ τ : ℕ → Term) (is js : Terms) (ps qs : List ℕ) (x : ℕ) → d ≡ e →
    ((i : ℕ) → σ i ≡ τ i) → is ≡ js → ps ≡ qs → way d σ is ps x ≡ way e τ js qs x
same-way d e σ τ is js ps qs x a b c f =
    ap (λ n. way n σ is ps x) a ∙ ap (λ u. way e u is ps x) (fun_ext b) ∙ ap (λ ts. way e τ ts ps x) c ∙
    ap (λ ys. way e τ js ys x) f
