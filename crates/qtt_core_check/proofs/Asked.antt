-- What a rule asks of components does not depend on the derivation, but for types and uses.
use Rattle.std.proofs.Common.{◌≡◌, ℕ, List, [], ◌∷◌, cond, ◌&&◌, Bool, true, false, length, refl, ap, subst}
use mathlib.Core.Path.{ap₂}
use Rattle.qtt_base.specs.declared.place.GlobalId.{GlobalId}
use Rattle.qtt_usage.specs.declared.mult.Mult.{Mult}
use Rattle.qtt_usage.specs.Mult.{◌⊕◌, ◌⊙◌, join}
use Rattle.qtt_usage.specs.Uses.{Key, Use, outs}
use Rattle.qtt_term.specs.Term.{Form, Term, Terms, ε, ◌▸◌}
use Rattle.qtt_term.specs.Substitution.{closed}
use Rattle.qtt_term.specs.Signature.{Tele, ConSig, FamSig, Env, fam_at}
use Rattle.qtt_term.specs.Judgement.{Part, IsCon, Judged, judged, branch, sum_of, has_branch, join_of, total, Args, ParamsThenArgs, Branches, Cases, Rule}
use Rattle.qtt_term.specs.Accepted.{is_dead, live, own_of}
use Rattle.qtt_preserve.proofs.Iota.{is_con-one}

-- each a component or a branch of the other too, under the same binders and at the same multiplicity
pub data SameAsked : List Judged → List Judged → Type 0 where
  none : SameAsked [] []
  component : {Θ : Tele} {A B : Term} {q : Mult} {u w : Use} {js ks : List Judged} → SameAsked js ks →
      SameAsked (judged Θ A q u ∷ js) (judged Θ B q w ∷ ks)
  branches : {Θ : Tele} {A B : Term} {u w : Use} {js ks : List Judged} → SameAsked js ks →
      SameAsked (branch Θ A u ∷ js) (branch Θ B w ∷ ks)

args-asked : {Θ : Tele} {σ : ℕ → Term} {ts : Terms} {js ks : List Judged} → Args Θ σ ts js → Args Θ σ ts ks →
    SameAsked js ks
args-asked Args.none Args.none = SameAsked.none
args-asked (Args.more a) (Args.more b) = SameAsked.component (args-asked a b)

params-asked : {Ξ Θ : Tele} {σ : ℕ → Term} {ts : Terms} {js ks : List Judged} {S Z R T : Term} →
    ParamsThenArgs Ξ Θ σ ts js S R → ParamsThenArgs Ξ Θ σ ts ks Z T → SameAsked js ks
params-asked (ParamsThenArgs.param a) (ParamsThenArgs.param b) = SameAsked.component (params-asked a b)
params-asked (ParamsThenArgs.done a) (ParamsThenArgs.done b) = args-asked a b

branches-asked : {S : FamSig} {q : Mult} {σ : ℕ → Term} {P : Term} {cs : List ConSig} {ns : List ℕ} {ts : Terms}
    {js ks : List Judged} {R T : Term} →
    Branches S q σ P cs ns ts js R → Branches S q σ P cs ns ts ks T → SameAsked js ks
branches-asked (Branches.each e a) (Branches.each d b) = SameAsked.branches (branches-asked a b)
branches-asked (Branches.scrutinee is e) (Branches.scrutinee ks d) = SameAsked.component SameAsked.none

cases-asked : {S : FamSig} {q : Mult} {Θ : Tele} {σ : ℕ → Term} {k m n : ℕ} {ns : List ℕ} {ts : Terms}
    {js ks : List Judged} {R T : Term} →
    Cases S q Θ σ k m ns ts js R → Cases S q Θ σ k n ns ts ks T → SameAsked js ks
cases-asked (Cases.param a) (Cases.param b) = SameAsked.component (cases-asked a b)
cases-asked (Cases.motive a) (Cases.motive b) = SameAsked.component (branches-asked a b)

-- the constructor of a rule of constructors
record ConRule (E : Env) (f : GlobalId) (n : ℕ) (ts : Terms) (js : List Judged) (R : Term) : Type 0 where
  sig : ConSig
  is_con : IsCon (fam_at E f).constructors n sig
  args : ParamsThenArgs sig.fields (fam_at E f).params closed ts js sig.result R

con-rule : {E : Env} {p : Part} {f : GlobalId} {n k : ℕ} {ts : Terms} {js : List Judged} {R : Term} {own : Use} →
    Rule E p (Form.con f n k) ts js R own → ConRule E f n ts js R
con-rule (Rule.con {c = c} i a) = record { sig = c; is_con = i; args = a }

con-asked : {E : Env} {f : GlobalId} {n : ℕ} {ts : Terms} {js ks : List Judged} {R T : Term} → ConRule E f n ts js R →
    ConRule E f n ts ks T → SameAsked js ks
con-asked {E} {f} {n} {ts} {js} {ks} {R} {T} a b =
    params-asked a.args (subst (λ c. ParamsThenArgs c.fields (fam_at E f).params closed ts ks c.result T)
    (is_con-one b.is_con a.is_con) b.args)

pub rule-asked : {E : Env} {p : Part} {F : Form} {ts : Terms} {js ks : List Judged} {R T : Term} {own any : Use} →
    Rule E p F ts js R own → Rule E p F ts ks T any → SameAsked js ks
rule-asked Rule.sort Rule.sort = SameAsked.none
rule-asked Rule.pi Rule.pi = SameAsked.component (SameAsked.component SameAsked.none)
rule-asked Rule.lam Rule.lam = SameAsked.component (SameAsked.component SameAsked.none)
rule-asked Rule.app Rule.app = SameAsked.component (SameAsked.component SameAsked.none)
rule-asked (Rule.fam h a) (Rule.fam i b) = params-asked a b
rule-asked (Rule.con {c = c} i a) r = con-asked (record { sig = c; is_con = i; args = a }) (con-rule r)
rule-asked (Rule.case h u a) (Rule.case i v b) = cases-asked a b
rule-asked (Rule.delete u) (Rule.delete v) =
    SameAsked.component (SameAsked.component
    (SameAsked.component (SameAsked.component (SameAsked.component SameAsked.none))))
rule-asked (Rule.named h u a) (Rule.named i v b) = args-asked a b
rule-asked Rule.trap Rule.trap = SameAsked.component SameAsked.none
rule-asked Rule.tape Rule.tape = SameAsked.none

-- ---- the same shares at a key
pub data SharesAgree (x : Key) : List Judged → List Judged → Type 0 where
  none : SharesAgree x [] []
  more : {Θ : Tele} {A B : Term} {q : Mult} {b : Bool} {u w : Use} {js ks : List Judged} →
      q ⊙ outs (length Θ) u x ≡ q ⊙ outs (length Θ) w x → SharesAgree x js ks →
      SharesAgree x (record { binds = Θ; type = A; mult = q; branch = b; uses = u } ∷ js)
      (record { binds = Θ; type = B; mult = q; branch = b; uses = w } ∷ ks)

sums-agree : {x : Key} {js ks : List Judged} → SharesAgree x js ks → sum_of js x ≡ sum_of ks x
sums-agree SharesAgree.none = refl
sums-agree (SharesAgree.more {b = b} e s) = ap₂ (λ m n. cond b n (m ⊕ n)) e (sums-agree s)

has-agrees : {x : Key} {js ks : List Judged} → SharesAgree x js ks → has_branch js ≡ has_branch ks
has-agrees SharesAgree.none = refl
has-agrees (SharesAgree.more {b = b} e s) = ap (cond b true) (has-agrees s)

joins-agree : {x : Key} {js ks : List Judged} → SharesAgree x js ks → join_of js x ≡ join_of ks x
joins-agree SharesAgree.none = refl
joins-agree {x} (SharesAgree.more {b = b} {ks = ks} e s) =
    rw (has-agrees s) (ap₂ (λ m n. cond b (cond (has_branch ks) (join m n) m) n) e (joins-agree s))

pub totals-agree : {x : Key} {js ks : List Judged} (own any : Use) → own x ≡ any x → SharesAgree x js ks →
    total own js x ≡ total any ks x
totals-agree own any o s = ap₂ (λ m n. m ⊕ n) o (ap₂ (λ m n. m ⊕ n) (sums-agree s) (joins-agree s))

pub live-agree : {x : Key} {js ks : List Judged} (ts : Terms) → SharesAgree x js ks →
    SharesAgree x (live ts js) (live ts ks)
live-agree ε s = SharesAgree.none
live-agree (t ▸ ts) SharesAgree.none = SharesAgree.none
live-agree {x} (t ▸ ts)
    (SharesAgree.more {Θ = Θ} {A = A} {B = B} {q = q} {b = b} {u = u} {w = w} {js = js} {ks = ks} e s) =
    go (live-agree ts s) (b && is_dead t)
  where
    one : Term → Use → Judged
    one C v = record { binds = Θ; type = C; mult = q; branch = b; uses = v }

    go : SharesAgree x (live ts js) (live ts ks) → (d : Bool) →
        SharesAgree x (cond d (live ts js) (one A u ∷ live ts js)) (cond d (live ts ks) (one B w ∷ live ts ks))
    go later true = later
    go later false = SharesAgree.more e later

-- ---- what a form uses of its own
pub rule-own : {E : Env} {p : Part} {F : Form} {ts : Terms} {js : List Judged} {R : Term} {own : Use} →
    Rule E p F ts js R own → Rule E p F ts js R (own_of F)
rule-own Rule.sort = Rule.sort
rule-own Rule.pi = Rule.pi
rule-own Rule.lam = Rule.lam
rule-own Rule.app = Rule.app
rule-own (Rule.fam h a) = Rule.fam h a
rule-own (Rule.con i a) = Rule.con i a
rule-own (Rule.case h u a) = Rule.case h u a
rule-own (Rule.delete u) = Rule.delete u
rule-own (Rule.named h u a) = Rule.named h u a
rule-own Rule.trap = Rule.trap
rule-own Rule.tape = Rule.tape
