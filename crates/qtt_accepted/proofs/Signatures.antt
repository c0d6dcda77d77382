-- No Tape stands in what the rules read off an environment without one.
use Rattle.std.proofs.Common.{◌≡◌, ℕ, zero, suc, List, [], ◌∷◌, ◌++◌, length, Some, slice_get, subst}
use Rattle.qtt_base.specs.declared.place.GlobalId.{GlobalId}
use Rattle.qtt_usage.specs.declared.mult.Mult.{Mult}
use Rattle.qtt_usage.specs.Mult.{𝟘}
use Rattle.qtt_prims.specs.declared.prim.Primitive.{Primitive}
use Rattle.qtt_term.specs.declared.term.ConId.{ConId}
use Rattle.qtt_term.specs.Term.{PrimTy, Action, Named, Term}
use Rattle.qtt_term.specs.Substitution.{shift, above}
use Rattle.qtt_term.specs.Signature.{Tele, Constructor, ConSig, con_sigs, index_binders, signature, prim_signature, act_signature, family_at}
use Rattle.qtt_term.specs.Judgement.{scale}
use Rattle.qtt_term.specs.Environment.{NoTape}
use Rattle.qtt_term.proofs.Options.{none≢some, some-injective}
use Rattle.qtt_term.specs.Entries.{Entries, env}
use Rattle.qtt_bidi.specs.Elaboration.{family_telescope, constructor_at}
use Rattle.qtt_accepted.specs.Tapeless.{TeleTapeless, TypesTapeless, ConstructorsTapeless, Tapeless}
use Rattle.qtt_accepted.proofs.Tapes.{renamed, joined, above-clean}
use Rattle.qtt_prims.specs.declared.lit.Lit.TheVariants as literal
use Rattle.qtt_prims.specs.declared.prim.Primitive.TheVariants as prim

scaled : (q : Mult) (Θ : Tele) → TeleTapeless Θ → TeleTapeless (scale q Θ)
scaled q [] h = tt
scaled q (b ∷ Θ) h = (h.0, scaled q Θ h.1)

behind-clean : (Θ Ξ : Tele) → TeleTapeless Θ → TeleTapeless Ξ → TeleTapeless (Θ ++ Ξ)
behind-clean [] Ξ h k = k
behind-clean (b ∷ Θ) Ξ h k = (h.0, behind-clean Θ Ξ h.1 k)

binders-clean : (n : ℕ) (Ts : List Term) → TypesTapeless Ts → TeleTapeless (index_binders n Ts)
binders-clean n [] h = tt
binders-clean n (T ∷ Ts) h = (renamed T (shift n) h.0, binders-clean (suc n) Ts h.1)

pub record SigTapeless (d : ConSig) : Type 0 where
  pub fields : TeleTapeless d.fields
  pub result : NoTape d.result

sig-clean : (f : GlobalId) (k c : ℕ) (ds : List Constructor) (i : ℕ) (d : ConSig) → ConstructorsTapeless ds → slice_get
    (con_sigs f k c ds) i ≡ Some d → SigTapeless d
sig-clean f k c [] i d h e = absurd (none≢some e)
sig-clean f k c (x ∷ ds) zero d h e =
    subst SigTapeless (some-injective e)
    (record {
      fields = h.0.fields;
      result = (
        λ x. x,
        joined (above (length x.fields) k) x.results
            (above-clean (length x.fields) k) h.0.results,
      );
    })
sig-clean f k c (x ∷ ds) (suc i) d h e = sig-clean f k (suc c) ds i d h.1 e

prim-args : (p : Primitive) → TeleTapeless (prim_signature p).arguments
prim-args prim.AddInt = ((λ x. x, tt), ((λ x. x, tt), tt))
prim-args prim.SubInt = ((λ x. x, tt), ((λ x. x, tt), tt))
prim-args prim.MulInt = ((λ x. x, tt), ((λ x. x, tt), tt))
prim-args prim.DivInt = ((λ x. x, tt), ((λ x. x, tt), tt))
prim-args prim.ModInt = ((λ x. x, tt), ((λ x. x, tt), tt))
prim-args prim.EqInt = ((λ x. x, tt), ((λ x. x, tt), tt))
prim-args prim.LtInt = ((λ x. x, tt), ((λ x. x, tt), tt))
prim-args prim.AppendString = ((λ x. x, tt), ((λ x. x, tt), tt))
prim-args prim.EqString = ((λ x. x, tt), ((λ x. x, tt), tt))
prim-args prim.ShowInt = ((λ x. x, tt), tt)

prim-type : (p : Primitive) → NoTape (prim_signature p).type
prim-type prim.AddInt = (λ x. x, tt)
prim-type prim.SubInt = (λ x. x, tt)
prim-type prim.MulInt = (λ x. x, tt)
prim-type prim.DivInt = (λ x. x, tt)
prim-type prim.ModInt = (λ x. x, tt)
prim-type prim.EqInt = (λ x. x, tt)
prim-type prim.LtInt = (λ x. x, tt)
prim-type prim.AppendString = (λ x. x, tt)
prim-type prim.EqString = (λ x. x, tt)
prim-type prim.ShowInt = (λ x. x, tt)

act-args : (a : Action) → TeleTapeless (act_signature a).arguments
act-args (Action.pure m) = ((λ x. x, tt), (tt, tt))
act-args (Action.bind m n) = (
  (λ x. x, tt),
  (
    (λ x. x, tt),
    (
      (λ x. x, (tt, tt)),
      ((λ x. x, (tt, ((λ x. x, (tt, tt)), tt))), tt),
    ),
  ),
)
act-args Action.put_line = ((λ x. x, tt), tt)
act-args Action.get_line = tt
act-args Action.opens = ((λ x. x, tt), tt)
act-args Action.writes = ((λ x. x, tt), ((λ x. x, tt), tt))
act-args Action.closes = ((λ x. x, tt), tt)

act-type : (a : Action) → NoTape (act_signature a).type
act-type (Action.pure m) = (λ x. x, (tt, tt))
act-type (Action.bind m n) = (λ x. x, (tt, tt))
act-type Action.put_line = (λ x. x, ((λ x. x, tt), tt))
act-type Action.get_line = (λ x. x, ((λ x. x, tt), tt))
act-type Action.opens = (λ x. x, ((λ x. x, tt), tt))
act-type Action.writes = (λ x. x, ((λ x. x, tt), tt))
act-type Action.closes = (λ x. x, ((λ x. x, tt), tt))

module _ (G : Entries) (clean : Tapeless (env G)) where
  pub constructor-clean : (c : ConId) (d : ConSig) → constructor_at G c ≡ Some d → SigTapeless d
  constructor-clean c d e = sig-clean c.family _ 0 (family_at (env G) c.family).constructors c.place d
      (clean.families c.family).constructors e

  pub telescope-clean : (f : GlobalId) → TeleTapeless (family_telescope G f)
  telescope-clean f =
      let F = family_at (env G) f in
      scaled 𝟘 (F.params ++ index_binders 0 F.indices) (behind-clean F.params (index_binders 0 F.indices)
      (clean.families f).params (binders-clean 0 F.indices (clean.families f).indices))

  pub arguments-clean : (n : Named) → TeleTapeless (signature (env G) n).arguments
  arguments-clean (Named.def d) = tt
  arguments-clean (Named.lit (literal.Int z)) = tt
  arguments-clean (Named.lit (literal.Text s)) = tt
  arguments-clean (Named.prim_ty PrimTy.int) = tt
  arguments-clean (Named.prim_ty PrimTy.string) = tt
  arguments-clean (Named.prim_ty PrimTy.handle) = tt
  arguments-clean (Named.prim_ty (PrimTy.io_of m)) = ((λ x. x, tt), tt)
  arguments-clean (Named.prim p) = prim-args p
  arguments-clean (Named.act a k) = act-args a

  pub type-clean : (n : Named) → NoTape (signature (env G) n).type
  type-clean (Named.def d) = clean.types d
  type-clean (Named.lit (literal.Int z)) = (λ x. x, tt)
  type-clean (Named.lit (literal.Text s)) = (λ x. x, tt)
  type-clean (Named.prim_ty PrimTy.int) = (λ x. x, tt)
  type-clean (Named.prim_ty PrimTy.string) = (λ x. x, tt)
  type-clean (Named.prim_ty PrimTy.handle) = (λ x. x, tt)
  type-clean (Named.prim_ty (PrimTy.io_of m)) = (λ x. x, tt)
  type-clean (Named.prim p) = prim-type p
  type-clean (Named.act a k) = act-type a
