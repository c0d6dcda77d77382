-- The handles of a run beside its tapes.
use Rattle.std.proofs.Common.{◌≡◌, ℕ, zero, suc, ◌+◌, ◌-◌, ◌^◌, ◌<◌, true, false, List, [], ◌∷◌, ◌++◌, length, map, get_or, slice_set}
use Rattle.std.proofs.Common.{Option, Some, None, option_map, IfSome, refl, sym, ap, ◌∙◌, subst, arith}
use Rattle.std.proofs.lemmas.List.{get_or-map, map-append, length-map, length-append}
use Rattle.std.proofs.lemmas.List.FromFn.{get_or-range_with_len}
use Rattle.std.proofs.lemmas.Option.{none-some}
use Rattle.std.proofs.Math.Seq.{map-set_same}
use Rattle.std.proofs.Math.ListN.{length-set}
use Rattle.std.specs.List.{range_with_len}
use Rattle.std.specs.Option.{ForSome}
use Rattle.qtt_prims.specs.Tapes.{Taped, new_tape, with_line, shut, changed}
use Rattle.qtt_edge.specs.Tapes.{HasRoom, IsOpenAt, SameButAt, KeepsOthers}
use Rattle.qtt_edge.proofs.TapeLemmas.{open_within}
use Rattle.qtt_run.specs.Handles.{flag_of, is_open, number_of, NumberedByPlace, Mirrors, HasOpen}
use Rattle.qtt_run.specs.declared.handles.Handle.{Handle}
use Rattle.qtt_run.specs.declared.handles.Handles.{Handles}

-- ---- what is read of them
pub same-length : (handles : List Handle) (tapes : List Taped) → map flag_of handles ≡ map is_open tapes →
    length handles ≡ length tapes
same-length handles tapes flags = sym (length-map handles flag_of) ∙ ap length flags ∙ length-map tapes is_open

pub place-within : (handles : Handles) (told : Option (List Taped)) (place : ℕ) → HasOpen handles told place →
    place < length handles.all.items
place-within handles told place has =
    let same = same-length handles.all.items has.0 has.1.flags in
    let within = open_within place has.0 has.2 in
    omega arith

-- the outside has the tape by its place, where it tells its tapes
number-at : (handles : Handles) (told : Option (List Taped)) (tapes all : List Taped) (place : ℕ) (handle : Handle) →
    Mirrors handles told tapes → place < length handles.all.items →
    handle ≡ get_or handles.all.items place handle → told ≡ Some all →
    handle.number ≡ place
number-at handles None tapes all place handle mirrors within is tells = let wrong : ⊥ =
    none-some all tells in absurd wrong
number-at handles (Some us) tapes all place handle mirrors within is tells =
    let items = handles.all.items in
    ap number_of is ∙ sym (get_or-map number_of items place handle 0 within) ∙
    ap (λ ns. get_or ns place 0) mirrors.numbers
    ∙ get_or-range_with_len 0 (length items) place 0 within ∙ omega arith

pub number-open : (handles : Handles) (told : Option (List Taped)) (place : ℕ) (handle : Handle) →
    HasOpen handles told place →
    handle ≡ get_or handles.all.items place handle → (all : List Taped) → told ≡ Some all → handle.number ≡ place
number-open handles told place handle has is all tells =
    number-at handles told has.0 all place handle has.1 (place-within handles told place has) is tells

pub outside-open : (handles : Handles) (told : Option (List Taped)) (place : ℕ) (handle : Handle) →
    HasOpen handles told place →
    handle ≡ get_or handles.all.items place handle → ForSome told (IsOpenAt handle.number)
outside-open handles None place handle has is = λ all tells. let wrong : ⊥ = none-some all tells in absurd wrong
outside-open handles (Some us) place handle has is = λ all tells.
    let number = number-open handles (Some us) place handle has is all tells in
    let same : all ≡ has.0 = cc (has.1.same) in
    rw (number, same) has.2

-- ---- what the outside did to the tape of a number, it did to that of the place
pub changes-place : (told new : Option (List Taped)) (change : Taped → Taped) (number place : ℕ) →
    ((all : List Taped) → told ≡ Some all → number ≡ place) → new ≡ option_map (changed number change) told →
    new ≡ option_map (changed place change) told
changes-place None new change number place same is = is
changes-place (Some all) new change number place same is = is ∙ ap (λ n. Some (changed n change all)) (same all refl)

pub keeps-place : (told new : Option (List Taped)) (number place : ℕ) →
    ((all : List Taped) → told ≡ Some all → number ≡ place) →
    KeepsOthers number told new → KeepsOthers place told new
keeps-place None None number place same keeps = tt
keeps-place None (Some us) number place same keeps = absurd keeps
keeps-place (Some all) None number place same keeps = absurd keeps
keeps-place (Some all) (Some us) number place same keeps = subst (λ n. SameButAt n all us) (same all refl) keeps

-- ---- mirrored again
still-told : (told new : Option (List Taped)) (tapes : List Taped) (next : List Taped → List Taped) →
    IfSome told (λ all. all ≡ tapes) →
    new ≡ option_map next told → IfSome new (λ all. all ≡ next tapes)
still-told None new tapes next same is = rw is tt
still-told (Some all) new tapes next same is = rw is (ap next same)

still-holds : (told new : Option (List Taped)) (next : List Taped → List Taped) (P Q : Type 0) →
    (P → Q) → IfSome told (λ _. P) →
    new ≡ option_map next told → IfSome new (λ _. Q)
still-holds None new next P Q so has is = rw is tt
still-holds (Some all) new next P Q so has is = rw is (so has)

pub mirrors-changed : (old new : Handles) (told next : Option (List Taped)) (tapes : List Taped)
    (change : List Taped → List Taped) →
    Mirrors old told tapes → next ≡ option_map change told → map flag_of new.all.items ≡ map is_open (change tapes) →
    (NumberedByPlace old.all.items → NumberedByPlace new.all.items) → Mirrors new next (change tapes)
mirrors-changed old new told next tapes change mirrors is flags numbers =
    record {
      same = still-told told next tapes change mirrors.same is;
      flags = flags;
      numbers = still-holds told next change (NumberedByPlace old.all.items)
          (NumberedByPlace new.all.items) numbers mirrors.numbers is;
    }

-- ---- a line is added
flags-with_line : (place : ℕ) (line : List ℕ) (tapes : List Taped) →
    map is_open (changed place (with_line line) tapes) ≡ map is_open tapes
flags-with_line place line [] = refl
flags-with_line zero line (t ∷ ts) = refl
flags-with_line (suc place) line (t ∷ ts) = ap (λ flags. t.is_open ∷ flags) (flags-with_line place line ts)

pub mirrors-written : (handles : Handles) (told next : Option (List Taped)) (tapes : List Taped) (place : ℕ)
    (line : List ℕ) →
    Mirrors handles told tapes → next ≡ option_map (changed place (with_line line)) told →
    Mirrors handles next (changed place (with_line line) tapes)
mirrors-written handles told next tapes place line mirrors is =
    mirrors-changed handles handles told next tapes (changed place (with_line line)) mirrors is
    (mirrors.flags ∙ sym (flags-with_line place line tapes)) (λ numbers. numbers)

-- ---- a tape is closed
flags-shut : (place : ℕ) (handle : Handle) (handles : List Handle) (tapes : List Taped) → handle.is_open ≡ false →
    map flag_of handles ≡ map is_open tapes →
    map flag_of (slice_set handles place handle) ≡ map is_open (changed place shut tapes)
flags-shut place handle [] [] closed flags = refl
flags-shut place handle [] (t ∷ ts) closed flags = let wrong : ⊥ = cc in absurd wrong
flags-shut place handle (h ∷ hs) [] closed flags = let wrong : ⊥ = cc in absurd wrong
flags-shut zero handle (h ∷ hs) (t ∷ ts) closed flags = cc
flags-shut (suc place) handle (h ∷ hs) (t ∷ ts) closed flags =
    let shorter : map flag_of hs ≡ map is_open ts = cc in
    let rest = flags-shut place handle hs ts closed shorter in
    cc

numbered-set : (place : ℕ) (handle : Handle) (handles : List Handle) →
    handle.number ≡ number_of (get_or handles place handle) →
    NumberedByPlace handles → NumberedByPlace (slice_set handles place handle)
numbered-set place handle handles same numbered =
    map-set_same number_of handles place handle handle same ∙ numbered ∙ ap (range_with_len 0)
    (sym (length-set handles place handle))

pub mirrors-closed : (old new : Handles) (told next : Option (List Taped)) (tapes : List Taped) (place : ℕ)
    (handle : Handle) →
    Mirrors old told tapes → next ≡ option_map (changed place shut) told →
    new.all.items ≡ slice_set old.all.items place handle →
    handle.is_open ≡ false → handle.number ≡ number_of (get_or old.all.items place handle) →
    Mirrors new next (changed place shut tapes)
mirrors-closed old new told next tapes place handle mirrors is items closed same =
    mirrors-changed old new told next tapes (changed place shut) mirrors is
    (ap (map flag_of) items ∙ flags-shut place handle old.all.items tapes closed mirrors.flags)
    (λ numbers. subst NumberedByPlace (sym items) (numbered-set place handle old.all.items same numbers))

-- ---- a tape is opened
range-more : (a n m : ℕ) → a + n ≡ m → range_with_len a (suc n) ≡ range_with_len a n ++ m ∷ []
range-more a zero m e = let same : a ≡ m = omega arith in ap (λ k. k ∷ []) same
range-more a (suc n) m e = ap (λ l. a ∷ l) (range-more (a + 1) n m (omega arith))

numbered-more : (handles : List Handle) (handle : Handle) → handle.number ≡ length handles → NumberedByPlace handles →
    NumberedByPlace (handles ++ handle ∷ [])
numbered-more handles handle next numbered =
    let len : length (handles ++ handle ∷ []) ≡ suc (length handles) =
    length-append handles (handle ∷ []) ∙ omega arith in
    map-append number_of handles (handle ∷ [])
    ∙ ap (λ l. l ++ handle.number ∷ []) numbered
    ∙ ap (λ n. range_with_len 0 (length handles) ++ n ∷ []) next
    ∙ sym (range-more 0 (length handles) (length handles) (omega arith))
    ∙ ap (range_with_len 0) (sym len)

opened-numbers : (old : Handles) (told next : Option (List Taped)) (tapes : List Taped) (handle : Handle)
    (name : List ℕ) →
    Mirrors old told tapes → next ≡ option_map (λ all. all ++ new_tape name ∷ []) told →
    IfSome told (λ all. handle.number ≡ length all) →
    IfSome next (λ _. NumberedByPlace (old.all.items ++ handle ∷ []))
opened-numbers old None next tapes handle name mirrors is number = rw is tt
opened-numbers old (Some all) next tapes handle name mirrors is number =
    let len = same-length old.all.items tapes mirrors.flags in
    let same : all ≡ tapes = mirrors.same in
    rw is (numbered-more old.all.items handle (number ∙ ap length same ∙ sym len) mirrors.numbers)

pub mirrors-opened : (old new : Handles) (told next : Option (List Taped)) (tapes : List Taped) (handle : Handle)
    (name : List ℕ) →
    Mirrors old told tapes → next ≡ option_map (λ all. all ++ new_tape name ∷ []) told →
    new.all.items ≡ old.all.items ++ handle ∷ [] →
    handle.is_open ≡ true → IfSome told (λ all. handle.number ≡ length all) →
    Mirrors new next (tapes ++ new_tape name ∷ [])
mirrors-opened old new told next tapes handle name mirrors is items opens number =
    record {
      same = still-told told next tapes (λ all. all ++ new_tape name ∷ []) mirrors.same is;
      flags =
          ap (map flag_of) items ∙ map-append flag_of old.all.items (handle ∷ []) ∙
          ap (λ l. l ++ handle.is_open ∷ []) mirrors.flags
          ∙ ap (λ b. map is_open tapes ++ b ∷ []) opens ∙ sym (map-append is_open tapes (new_tape name ∷ []));
      numbers =
          subst (λ l. IfSome next (λ _. NumberedByPlace l)) (sym items)
          (opened-numbers old told next tapes handle name mirrors is number);
    }

-- there is room for one tape more
pub has-room : (handles : Handles) (told : Option (List Taped)) (tapes : List Taped) → Mirrors handles told tapes →
    length tapes < 2 ^ 32 - 1 → HasRoom told
has-room handles None tapes mirrors few = λ all tells. let wrong : ⊥ = none-some all tells in absurd wrong
has-room handles (Some us) tapes mirrors few = λ all tells.
    let same : all ≡ tapes = cc (mirrors.same) in subst (λ ts. length ts < 2 ^ 32 - 1) (sym same) few

-- where the outside tells no other tapes, no handle mirrors none
pub mirrors-none : (handles : Handles) (told : Option (List Taped)) → handles.all.items ≡ [] →
    ForSome told (λ all. all ≡ []) →
    Mirrors handles told []
mirrors-none handles None items none = record { same = tt; flags = ap (map flag_of) items; numbers = tt }
mirrors-none handles (Some all) items none =
    record { same = none all refl; flags = ap (map flag_of) items; numbers = subst NumberedByPlace (sym items) refl }
