-- What is read of the vault's texts, and of texts that it does not tell.
use Rattle.std.proofs.Common.{◌≡◌, ℕ, Bool, true, false, cond, List, [], ◌∷◌, map, take, Option, Some, None, Ok, Err, Vec, Global, refl, sym, ap, ◌∙◌, subst}
use Rattle.std.specs.Prelude.{◌&&◌, not, codes, option_map, IfSome}
use mathlib.Core.Path.{ap₂}
use Rattle.qtt_base.specs.declared.place.Span.{Span}
use Rattle.qtt_edge.specs.Vault as edge
use Rattle.qtt_syntax.specs.Tree.{Module}
use Rattle.qtt_syntax.specs.Tree.Module.{module_text}
use Rattle.qtt_graph.specs.Graph.{Name, same_name, is_among}
use Rattle.qtt_load.specs.Reading.{Reading, ◌>>=◌, wrong_name, has_name, tree_of_text, tree_of_module, read_text, Texts, read_in}
use Rattle.qtt_term.specs.declared.rule.Rule.{Rule}
use Rattle.qtt_rules.specs.declared.refusal.Refusal as code
use Rattle.qtt_diag.specs.Kept.{Detail, refusal as kept_of}
use Rattle.qtt_load.specs.Loading.{Stop, refusal, module_name}
use Rattle.qtt_load.specs.Laws.{ReadsAsNamed}
use Rattle.qtt_load.specs.Answer.{ReadsAs}
use Rattle.qtt_load.proofs.Known.{same-is, same-self, neither}
use Rattle.qtt_load.proofs.Stages.{front_read}

-- ---- what is read has the name that was asked for
abbrev Named : Name → Reading Module → Type 0
Named a (Ok m) = module_name m ≡ a
Named a (Err w) = Unit {0}

by-header : (asked : Name) (m : Module) → Named asked (has_name asked m >>= λ u. Ok m)
by-header asked (module_text h n ns is items) =
    by_tests (same_name n asked) (same_name n (codes "Prim")) refl
  where
    by_tests : (t p : Bool) → same_name n asked ≡ t →
        Named asked
        (cond (t && not p) (Ok (tt {0})) (Err (wrong_name asked n ns)) >>= λ u. Ok (module_text h n ns is items))
    by_tests true true e = tt
    by_tests true false e = same-is n asked e
    by_tests false p e = tt

by-tree : (asked : Name) (r : Reading Module) → Named asked (r >>= λ m. has_name asked m >>= λ u. Ok m)
by-tree asked (Ok m) = by-header asked m
by-tree asked (Err w) = tt

text-named : (asked : Name) (text : List ℕ) → Named asked (tree_of_module asked text)
unfolding tree_of_module
text-named asked text = by-tree asked (tree_of_text text)

pub read-named : (a : Name) (text : Option (List ℕ)) (m : Module) → read_text a text ≡ Ok m → module_name m ≡ a
read-named a None m is = absurd (cc is)
read-named a (Some text) m is = subst (Named a) is (text-named a text)

pub reads-as-named : (texts : Texts) → ReadsAsNamed (read_in texts)
reads-as-named texts a m is = read-named a (texts a) m is

-- ---- what was read of the vault
of-front : (a : Name) (front : List ℕ) (held : Option (List ℕ)) → option_map (take 1048577) held ≡ Some front →
    read_text a held ≡ tree_of_module a front
of-front a front None is = absurd (cc is)
of-front a front (Some whole) is = sym (front_read a whole front (cc is))

pub reads-front : (told : Option Texts) (a : Name) (front : Vec ℕ Global) (answer : Reading Module) →
    edge.Reads told a 1048577 (Ok front) → tree_of_module a front.items ≡ answer → ReadsAs told a answer
reads-front None a front answer reads is = (Some front.items, tt, is)
reads-front (Some f) a front answer reads is = (f a, refl, of-front a front.items (f a) reads ∙ is)

-- ---- texts that agree with what was read
-- reading gave these modules
abbrev pub Gave : (Name → Reading Module) → List Module → Type 0
Gave read [] = Unit {0}
Gave read (m ∷ ms) = (read (module_name m) ≡ Ok m) × Gave read ms

-- these texts but for one name
abbrev with_text : Texts → Name → Option (List ℕ) → Texts
with_text texts a text b = cond (same_name a b) text (texts b)

at-own : (texts : Texts) (a : Name) (text : Option (List ℕ)) → with_text texts a text a ≡ text
at-own texts a text = ap (λ t. cond t text (texts a)) (same-self a)

at-others : (texts : Texts) (a : Name) (text : Option (List ℕ)) (ms : List Module) →
    is_among (map module_name ms) a ≡ false → Gave (read_in texts) ms → Gave (read_in (with_text texts a text)) ms
at-others texts a text [] new gave = tt
at-others texts a text (m ∷ ms) new gave =
    let apart = neither _ _ new in (
      ap (λ t. read_text (module_name m) (cond t text (texts (module_name m)))) apart.0 ∙ gave.0,
      at-others texts a text ms apart.1 gave.1,
    )

-- texts of which these modules were read, and then this
pub record Agreeing (told : Option Texts) (ms : List Module) (a : Name) (answer : Reading Module) : Type 0 where
  pub texts : Texts
  pub held : IfSome told (λ f. f ≡ texts)
  pub gave : Gave (read_in texts) ms
  pub reads : read_in texts a ≡ answer

pub agreeing : (told : Option Texts) (texts : Texts) (ms : List Module) (a : Name) (answer : Reading Module) →
    IfSome told (λ f. f ≡ texts) → Gave (read_in texts) ms → is_among (map module_name ms) a ≡ false →
    ReadsAs told a answer → Agreeing told ms a answer
agreeing None texts ms a answer held gave new (text, t, is) = record {
  texts = with_text texts a text;
  held = tt;
  gave = at-others texts a text ms new gave;
  reads = ap (read_text a) (at-own texts a text) ∙ is;
}
agreeing (Some f) texts ms a answer held gave new (text, t, is) = record {
  texts = texts;
  held = held;
  gave = gave;
  reads = ap (λ (g : Texts). read_text a (g a)) (sym held) ∙ ap (read_text a) t ∙ is;
}

-- ---- what a refusal of the code tells
pub told-as : (r : code.Refusal) (by : Rule) (a n : Name) (s : Span) (d : Detail) → kept_of r ≡ refusal n s d → n ≡ a →
    r.rule ≡ by → Stop.refused by (refusal a s d) ≡ Stop.refused r.rule (kept_of r)
told-as r by a n s d kept is named =
    ap₂ (λ p q. Stop.refused p q) (sym named) (ap (λ (b : Name). refusal b s d) (sym is) ∙ sym kept)
