-- Which tapes over files are open after one of them changed.
use Rattle.std.proofs.Common.{◌≡◌, ℕ, ◌<◌, List, length, get_or, slice_set, Bool, Some, option_map, is_some, sym, ap, ◌∙◌}
use Rattle.std.proofs.lemmas.List.{map-set}
use Rattle.std.proofs.lemmas.Option.{slice_get-map, slice_get-get_or}
use Rattle.std.proofs.Math.Seq.{map-set_same}
use Rattle.std.specs.List.{slice_get}
use Rattle.qtt_edge.specs.FileTapes.{open_flags}
use Rattle.qtt_edge.specs.declared.adapters.file_tapes.FileTape.{FileTape}

pub open_flags-same : {F : Type 0} (xs : List (FileTape F)) (number : ℕ) (x y : FileTape F) →
    x ≡ get_or xs number x → is_some y.file ≡ is_some x.file → open_flags (slice_set xs number y) ≡ open_flags xs
open_flags-same xs number x y was kept =
    map-set_same (λ tape. is_some tape.file) xs number y x (kept ∙ ap (λ tape. is_some tape.file) was)

pub open_flags-set : {F : Type 0} (xs : List (FileTape F)) (number : ℕ) (y : FileTape F) (flag : Bool) →
    is_some y.file ≡ flag → open_flags (slice_set xs number y) ≡ slice_set (open_flags xs) number flag
open_flags-set xs number y flag is =
    map-set (λ tape. is_some tape.file) xs number y ∙ ap (λ b. slice_set (open_flags xs) number b) is

pub open_flags-at : {F : Type 0} (xs : List (FileTape F)) (number : ℕ) (x : FileTape F) (flag : Bool) →
    number < length xs → x ≡ get_or xs number x → is_some x.file ≡ flag →
    slice_get (open_flags xs) number ≡ Some flag
open_flags-at xs number x flag within was is =
    slice_get-map (λ tape. is_some tape.file) xs number
    ∙ (ap (option_map (λ tape. is_some tape.file)) (slice_get-get_or xs number x within)
    ∙ ap Some (ap (λ tape. is_some tape.file) (sym was) ∙ is))
