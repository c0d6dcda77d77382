-- Where as many stand before as may.
use Rattle.std.proofs.Common.{◌≡◌, ℕ, Bool, true, false, cond, List, [], ◌∷◌, refl}
use Rattle.qtt_base.specs.declared.place.Span.{Span}
use Rattle.qtt_base.specs.declared.limits.Quantity.{Quantity}
use Rattle.qtt_base.specs.declared.limits.Quantity.TheVariants as quantity
use Rattle.qtt_syntax.specs.declared.expr.Local.{Local}
use Rattle.qtt_syntax.specs.Tree.{Item, Con}
use Rattle.qtt_phrase.specs.Reading.{Kind, Read, cap_at}
use Rattle.qtt_phrase.specs.Reading.Kind.{unexpected}
use Rattle.qtt_phrase.specs.Reading.Read.{got, bad, over}
use Rattle.qtt_grammar.specs.declared.class.Pass.{Pass}
use Rattle.qtt_grammar.specs.declared.stop.Excess.{Excess}
use Rattle.qtt_grammar.specs.declared.stop.Stop.{Stop}
use Rattle.qtt_grammar.specs.declared.stop.Stop.TheVariants as stop
use Rattle.qtt_grammar.specs.declared.lexeme.Lexeme.{Lexeme}
use Rattle.qtt_grammar.specs.Classes.{is_next, is_big}
use Rattle.qtt_grammar.specs.Grammar.{of, Place, clauses_before}
use Rattle.qtt_grammar.specs.Limits.{is_full, one_above}
use Rattle.qtt_grammar.specs.Readers.{Reads, symbol_at, up_to_at, starts_equation, clause_at, next_con_at}
use Rattle.qtt_grammar.specs.View.{Fails, kind_of, within}

bad_any : (A B : Type 0) (k j : Kind) (ls ms : List Lexeme) →
    ◌≡◌ {A = Read Lexeme Excess A} (bad k ls) (bad j ms) → ◌≡◌ {A = Read Lexeme Excess B} (bad k ls) (bad j ms)
bad_any A B k j ls ms e = let a : k ≡ j = (let h = e in cc) in let b : ls ≡ ms = (let h = e in cc) in rw (a, b) refl

over_any : (A B : Type 0) (f g : Excess) (ls ms : List Lexeme) →
    ◌≡◌ {A = Read Lexeme Excess A} (over f ls) (over g ms) →
    ◌≡◌ {A = Read Lexeme Excess B} (over f ls) (over g ms)
over_any A B f g ls ms e = let a : f ≡ g = (let h = e in cc) in let b : ls ≡ ms = (let h = e in cc) in rw (a, b) refl

fails_bad : (A B : Type 0) (k : Kind) (ls : List Lexeme) (e : Stop) → Fails {A = A} e (bad k ls) →
    Fails {A = B} e (bad k ls)
fails_bad A B k ls stop.Memory h = tt
fails_bad A B k ls (stop.Bad r rest) h = bad_any A B k (kind_of r) ls rest.now h
fails_bad A B k ls (stop.Over f rest) h = absurd (let g = h in cc)

fails_over : (A B : Type 0) (f : Excess) (ls : List Lexeme) (e : Stop) → Fails {A = A} e (over f ls) →
    Fails {A = B} e (over f ls)
fails_over A B f ls stop.Memory h = tt
fails_over A B f ls (stop.Bad r rest) h = absurd (let g = h in cc)
fails_over A B f ls (stop.Over g rest) h = over_any A B f g ls rest.now h

cap_case : (A B : Type 0) (b : Bool) (f : Excess) (k : Kind) (x : Lexeme) (ls : List Lexeme) (e : Stop) →
    Fails {A = A} e (cond b (over f ls) (bad k (x ∷ ls))) → Fails {A = B} e (cond b (over f ls) (bad k (x ∷ ls)))
cap_case A B true f k x ls e h = fails_over A B f ls e h
cap_case A B false f k x ls e h = fails_bad A B k (x ∷ ls) e h

-- reading stops alike, whatever would be read
cap_any : (A B : Type 0) (is : Lexeme → Bool) (kind : Lexeme → Kind) (fault : Lexeme → Excess) (ls : List Lexeme)
    (e : Stop) → Fails {A = A} e (cap_at is kind fault ls) → Fails {A = B} e (cap_at is kind fault ls)
cap_any A B is kind fault [] e h = fails_bad A B unexpected [] e h
cap_any A B is kind fault (x ∷ ls) e h = cap_case A B (is x) (fault x) (kind x) x ls e h

pub full_stops : (A : Type 0) {B : Type 0} (pass : Pass) (q : Quantity) (is : Lexeme → Bool)
    (kind : Lexeme → Kind) (p : Reads B) (n : ℕ) (ls : List Lexeme) (e : Stop) → is_full pass q n ≡ true →
    Fails {A = A} e (cap_at is kind (λ x. one_above q x.place) ls) → Fails e (up_to_at pass q is kind p n ls)
full_stops A {B} pass q is kind p n ls e k h = rw k (cap_any A B is kind (λ x. one_above q x.place) ls e h)

-- as many clauses of the name stand before as may
pub clause_full : (pass : Pass) (n : ℕ) (at : Place) (name : Local) (ls : List Lexeme) (e : Stop) →
    is_full pass quantity.Clauses (clauses_before at name.name) ≡ true →
    Fails {A = Item} e (cap_at (of starts_equation) (λ _. unexpected) (λ _. one_above quantity.Clauses name.span)
    ls) → Fails e (within clause_at pass n at name ls)
unfolding clause_at
clause_full pass n at name ls e k h = rw k h

next_con_by : (pass : Pass) (n m : ℕ) (ls : List Lexeme) (s : Span) (r : List Lexeme) (e : Stop) →
    symbol_at is_next ls ≡ got s r → is_full pass quantity.Constructors m ≡ true →
    Fails {A = Con} e (cap_at (of is_big) (λ _. unexpected) (λ x. one_above quantity.Constructors x.place) r) →
    Fails e (within next_con_at pass n m ls)
unfolding next_con_at
next_con_by pass n m ls s r stop.Memory h k w = tt
next_con_by pass n m ls s r (stop.Bad x rest) h k w = rw (h, k, w) refl
next_con_by pass n m ls s r (stop.Over x rest) h k w = rw (h, k, w) refl

-- as many constructors stand before as may
pub next_con_full : (A : Type 0) (pass : Pass) (n m : ℕ) (ls : List Lexeme) (s : Span) (r : List Lexeme)
    (e : Stop) → symbol_at is_next ls ≡ got s r → is_full pass quantity.Constructors m ≡ true →
    Fails {A = A} e (cap_at (of is_big) (λ _. unexpected) (λ x. one_above quantity.Constructors x.place) r) →
    Fails e (within next_con_at pass n m ls)
next_con_full A pass n m ls s r e h k w =
    next_con_by pass n m ls s r e h k
    (cap_any A Con (of is_big) (λ _. unexpected) (λ x. one_above quantity.Constructors x.place) r e w)
