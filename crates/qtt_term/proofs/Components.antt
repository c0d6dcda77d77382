-- The components that lists make, and the lists that components come from.
use Rattle.std.proofs.Common.{◌≡◌, ℕ, zero, suc, ◌+◌, ◌<◌, List, [], ◌∷◌, ◌++◌, length, get_or, map, refl, sym, ap, ◌∙◌, arith}
use Rattle.std.proofs.lemmas.List.{length-map}
use Rattle.qtt_base.specs.declared.place.GlobalId.{GlobalId}
use Rattle.qtt_usage.specs.declared.mult.Mult.{Mult}
use Rattle.qtt_prims.specs.declared.prim.ActKind.{ActKind}
use Rattle.qtt_prims.specs.declared.prim.ActKind.TheVariants as act_kind
use Rattle.qtt_term.specs.Term.{Io, Action, Form, Term, Terms, node, ε, ◌▸◌, ◌+++◌, Act}
use Rattle.qtt_term.specs.View.{side_by_side, action}

pub same_lists : (xs ys : List Term) → side_by_side xs ≡ side_by_side ys → xs ≡ ys
same_lists [] [] e = refl
same_lists [] (y ∷ ys) e = cc
same_lists (x ∷ xs) [] e = cc
same_lists (x ∷ xs) (y ∷ ys) e =
    let tails : side_by_side xs ≡ side_by_side ys = cc in
    let rest = same_lists xs ys tails in
    cc

-- lists of one length in front are the same, and so is what follows them
pub same_front : (xs ys : List Term) (ps qs : Terms) → length xs ≡ length ys →
    side_by_side xs +++ ps ≡ side_by_side ys +++ qs → (xs ≡ ys) × (ps ≡ qs)
same_front [] [] ps qs n e = (refl, e)
same_front [] (y ∷ ys) ps qs n e = absurd (omega arith)
same_front (x ∷ xs) [] ps qs n e = absurd (omega arith)
same_front (x ∷ xs) (y ∷ ys) ps qs n e =
    let tails : side_by_side xs +++ ps ≡ side_by_side ys +++ qs = cc in
    let rest = same_front xs ys ps qs (omega arith) tails in
    let heads : x ≡ y = cc in
    (cc (rest.0), rest.1)

pub joined : (xs ys : List Term) → side_by_side xs +++ side_by_side ys ≡ side_by_side (xs ++ ys)
joined [] ys = refl
joined (x ∷ xs) ys = ap (λ ts. x ▸ ts) (joined xs ys)

same_pairs : (bs cs : List (ℕ × Term)) → map (λ b. b.0) bs ≡ map (λ b. b.0) cs →
    map (λ b. b.1) bs ≡ map (λ b. b.1) cs → bs ≡ cs
same_pairs [] [] e f = refl
same_pairs [] (c ∷ cs) e f = cc
same_pairs (b ∷ bs) [] e f = cc
same_pairs (b ∷ bs) (c ∷ cs) e f =
    let firsts : map (λ x. x.0) bs ≡ map (λ x. x.0) cs = cc in
    let seconds : map (λ x. x.1) bs ≡ map (λ x. x.1) cs = cc in
    let rest = same_pairs bs cs firsts seconds in
    let first : b.0 ≡ c.0 = cc in
    let second : b.1 ≡ c.1 = cc in
    ap (λ n. (n, b.1) ∷ bs) first ∙ ap (λ t. (c.0, t) ∷ bs) second ∙ ap (λ ds. c ∷ ds) rest

-- the components of a Case
abbrev pub case_of : Mult → GlobalId → List Term → ℕ → Term → List (ℕ × Term) → Term → Term
case_of q f ps i m bs s =
    node (Form.case q f (length ps) (i + 1) (map (λ b. b.0) bs))
    (side_by_side ps +++ (m ▸ (side_by_side (map (λ b. b.1) bs) +++ (s ▸ ε))))

pub record SameCase (q r : Mult) (f g : GlobalId) (ps qs : List Term) (i j : ℕ) (m n : Term)
    (bs cs : List (ℕ × Term)) (s t : Term) : Type 0 where
  pub mult : q ≡ r
  pub family : f ≡ g
  pub params : ps ≡ qs
  pub indices : i ≡ j
  pub motive : m ≡ n
  pub branches : bs ≡ cs
  pub scrutinee : s ≡ t

pub same_case : (q r : Mult) (f g : GlobalId) (ps qs : List Term) (i j : ℕ) (m n : Term) (bs cs : List (ℕ × Term))
    (s t : Term) →
    case_of q f ps i m bs s ≡ case_of r g qs j n cs t → SameCase q r f g ps qs i j m n bs cs s t
same_case q r f g ps qs i j m n bs cs s t e =
    let count : length ps ≡ length qs = cc in
    let binders : map (λ b. b.0) bs ≡ map (λ b. b.0) cs = cc in
    let indices : i + 1 ≡ j + 1 = cc in
    let parts : side_by_side ps +++ (m ▸ (side_by_side (map (λ b. b.1) bs) +++ (s ▸ ε))) ≡ side_by_side qs +++
    (n ▸ (side_by_side (map (λ b. b.1) cs) +++ (t ▸ ε))) = cc in
    let front = same_front ps qs _ _ count parts in
    let rest : side_by_side (map (λ b. b.1) bs) +++ (s ▸ ε) ≡ side_by_side (map (λ b. b.1) cs) +++ (t ▸ ε) =
    cc (front.1) in
    let middle = same_front (map (λ b. b.1) bs) (map (λ b. b.1) cs) _ _ (lengths bs cs binders) rest in
    record {
      mult = cc;
      family = cc;
      params = front.0;
      indices = omega arith;
      motive = cc (front.1);
      branches = same_pairs bs cs binders middle.0;
      scrutinee = cc (middle.1);
    }
  where
    lengths : (xs ys : List (ℕ × Term)) → map (λ b. b.0) xs ≡ map (λ b. b.0) ys →
        length (map (λ b. b.1) xs) ≡ length (map (λ b. b.1) ys)
    lengths xs ys h = length-map xs (λ b. b.1) ∙ sym (length-map xs (λ b. b.0)) ∙ ap length h ∙ length-map ys
        (λ b. b.0) ∙ sym (length-map ys (λ b. b.1))

-- ---- actions
kind_of : Action → ActKind
kind_of (Action.pure Io.io) = act_kind.Pure
kind_of (Action.pure Io.io1) = act_kind.Pure1
kind_of (Action.bind Io.io Io.io) = act_kind.BindIoIo
kind_of (Action.bind Io.io Io.io1) = act_kind.BindIoIo1
kind_of (Action.bind Io.io1 Io.io) = act_kind.BindIo1Io
kind_of (Action.bind Io.io1 Io.io1) = act_kind.BindIo1Io1
kind_of Action.put_line = act_kind.PutLine
kind_of Action.get_line = act_kind.GetLine
kind_of Action.opens = act_kind.Open
kind_of Action.writes = act_kind.Write
kind_of Action.closes = act_kind.Close

kind_of-action : (k : ActKind) → kind_of (action k) ≡ k
unfolding kind_of
kind_of-action act_kind.Pure = refl
kind_of-action act_kind.Pure1 = refl
kind_of-action act_kind.PutLine = refl
kind_of-action act_kind.GetLine = refl
kind_of-action act_kind.Open = refl
kind_of-action act_kind.Write = refl
kind_of-action act_kind.Close = refl
kind_of-action act_kind.BindIoIo = refl
kind_of-action act_kind.BindIoIo1 = refl
kind_of-action act_kind.BindIo1Io = refl
kind_of-action act_kind.BindIo1Io1 = refl

pub same_action : (k m : ActKind) → action k ≡ action m → k ≡ m
same_action k m e = sym (kind_of-action k) ∙ ap kind_of e ∙ kind_of-action m

-- the components of an action: type arguments, and behind them arguments
pub record SameAct (k m : ActKind) (xs ys us vs : List Term) : Type 0 where
  pub kind : k ≡ m
  pub types : xs ≡ us
  pub arguments : ys ≡ vs

pub same_act : (k m : ActKind) (xs ys us vs : List Term) →
    Act (action k) (length xs) (side_by_side xs +++ side_by_side ys)
    ≡ Act (action m) (length us) (side_by_side us +++ side_by_side vs) →
    SameAct k m xs ys us vs
same_act k m xs ys us vs e =
    let actions : action k ≡ action m = cc in
    let counts : length xs ≡ length us = cc in
    let parts : side_by_side xs +++ side_by_side ys ≡ side_by_side us +++ side_by_side vs = cc in
    let front = same_front xs us (side_by_side ys) (side_by_side vs) counts parts in
    record { kind = same_action k m actions; types = front.0; arguments = same_lists ys vs front.1 }

-- lists that differ at an index differ
pub same_at : {A B : Type 0} (f : A → B) (xs ys : List A) (i : ℕ) (d : A) → map f xs ≡ map f ys → i < length xs →
    i < length ys → f (get_or xs i d) ≡ f (get_or ys i d)
same_at f [] ys i d e p q = absurd (omega arith)
same_at f (x ∷ xs) [] i d e p q = absurd (omega arith)
same_at f (x ∷ xs) (y ∷ ys) zero d e p q = cc
same_at f (x ∷ xs) (y ∷ ys) (suc i) d e p q =
    let tails : map f xs ≡ map f ys = cc in
    same_at f xs ys i d tails (omega arith) (omega arith)
