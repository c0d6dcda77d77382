-- The marks that count are those of the relation.
use Rattle.std.proofs.Common.{◌≡◌, List, [], ◌∷◌, refl, sym, ap, ◌∙◌, subst}
use Rattle.qtt_base.specs.declared.place.Span.{Span}
use Rattle.qtt_layout.specs.Marks.{next_before, counted}
use Rattle.qtt_layout.specs.declared.laid.Laid.{Laid}
use Rattle.qtt_layout.specs.declared.laid.Laid.TheVariants.{Open, Next, Close, Tok}
use Rattle.qtt_layout_laws.specs.Counts.{BeginsOtherwise, Counts}

next_twice : (s r : Span) (ms : List Laid) → next_before s (next_before r ms) ≡ next_before s ms
next_twice s r [] = refl
next_twice s r (Open q ∷ ms) = refl
next_twice s r (Next q ∷ ms) = refl
next_twice s r (Close q ∷ ms) = refl
next_twice s r (Tok t ∷ ms) = refl

stays : (s : Span) {ms : List Laid} → BeginsOtherwise ms → counted (Next s ∷ ms) ≡ Next s ∷ counted ms
stays s BeginsOtherwise.with_none = refl
stays s BeginsOtherwise.with_open = refl
stays s BeginsOtherwise.with_token = refl

pub counted_is : {ms ns : List Laid} → Counts ms ns → counted ms ≡ ns
counted_is Counts.none = refl
counted_is (Counts.an_open {s} h) = ap (λ (l : List Laid). Open s ∷ l) (counted_is h)
counted_is (Counts.a_close {s} h) = ap (λ (l : List Laid). Close s ∷ l) (counted_is h)
counted_is (Counts.a_token {t} h) = ap (λ (l : List Laid). Tok t ∷ l) (counted_is h)
counted_is (Counts.next {s} o h) = stays s o ∙ ap (λ (l : List Laid). Next s ∷ l) (counted_is h)
counted_is (Counts.twice {s} {r} {ms} h) = next_twice s r (counted ms) ∙ counted_is h
counted_is (Counts.idle h) = counted_is h

-- marks count as they do, also behind a Next
counts_both : (ms : List Laid) → Counts ms (counted ms) × ((s : Span) → Counts (Next s ∷ ms) (counted (Next s ∷ ms)))
counts_both [] = (Counts.none, λ s. Counts.next BeginsOtherwise.with_none Counts.none)
counts_both (Open r ∷ ms) =
    let h = Counts.an_open (counts_both ms).0 in (h, λ s. Counts.next BeginsOtherwise.with_open h)
counts_both (Next r ∷ ms) = (
  (counts_both ms).1 r,
  λ s. subst (Counts (Next s ∷ Next r ∷ ms)) (sym (next_twice s r (counted ms))) (Counts.twice ((counts_both ms).1 s)),
)
counts_both (Close r ∷ ms) = let h = Counts.a_close (counts_both ms).0 in (h, λ s. Counts.idle h)
counts_both (Tok t ∷ ms) =
    let h = Counts.a_token (counts_both ms).0 in (h, λ s. Counts.next BeginsOtherwise.with_token h)

pub counts : (ms : List Laid) → Counts ms (counted ms)
counts ms = (counts_both ms).0
