use Rattle.std.proofs.Common.{◌≡◌, ℕ, ◌⊎◌, inl, inr, List, Result, Ok, Err, refl, sym, ◌∙◌}
use Rattle.qtt_lexer.specs.Lexed.{Mistake, lexed}
use Rattle.qtt_lexer.specs.declared.token.Token.{Token}
use Rattle.qtt_lexer.proofs.Cutting.{lexed-text}
use Rattle.qtt_lexer_laws.specs.Cuts.{HasTokens}
use Rattle.qtt_lexer_laws.specs.Flaws.{FirstFault}
use Rattle.qtt_lexer_laws.proofs.Texts.{tokens_stand, tokens_are_read, fault_stands, fault_is_read}
use Rattle.qtt_lexer_laws.proofs.laws.texts_are_cut_or_faulty.Goals as goal

abbrev Outcome : Type 0
Outcome = Result (List Token) Mistake

abbrev read_as : List Token → Outcome
read_as ts = Ok ts

abbrev refused_for : Mistake → Outcome
refused_for m = Err m

same_list : (ts us : List Token) → read_as ts ≡ read_as us → ts ≡ us
same_list ts us e = cc

same_fault : (m n : Mistake) → refused_for m ≡ refused_for n → m ≡ n
same_fault m n e = cc

differ : (ts : List Token) (m : Mistake) → read_as ts ≡ refused_for m → ⊥
differ ts m e = absurd (let f = e in cc)

by_outcome : (bytes : List ℕ) (r : Outcome) → lexed bytes ≡ r →
    ((ts : List Token) × HasTokens bytes ts) ⊎ ((m : Mistake) × FirstFault bytes m)
by_outcome bytes (Ok ts) e = inl (ts, tokens_stand bytes ts e)
by_outcome bytes (Err m) e = inr (m, fault_stands bytes m e)

pub returns : goal.returns
returns c = record {
  either = λ bytes. by_outcome bytes (lexed bytes) refl;
  not_both = λ bytes ts m h k.
      differ ts m (sym (tokens_are_read bytes ts h) ∙ fault_is_read bytes m k);
  one_list = λ bytes ts us h k.
      same_list ts us (sym (tokens_are_read bytes ts h) ∙ tokens_are_read bytes us k);
  one_fault = λ bytes m n h k.
      same_fault m n (sym (fault_is_read bytes m h) ∙ fault_is_read bytes n k);
  text = λ bytes ts h. lexed-text bytes ts (tokens_are_read bytes ts h);
}
