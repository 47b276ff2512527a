-- What a word does to a command of which some words were read.
-- Assumes nothing.
use Prim.Native.String.{String}
use Rattle.std.specs.Prelude.{ℕ, ◌+◌, ◌*◌, Bool, true, false, cond, not, ◌&&◌, List, Option, None, Some, Result, Ok, Err, codes, is_none, unwrap_or}
use Rattle.std.specs.Option.{option_map, ok_or}
use Rattle.std.specs.Str.{bytes_eq}
use Rattle.line.specs.declared.Call.{Call}
use Rattle.line.specs.declared.Call.TheVariants.{Init, GetEmptyPic, PutPic, OutPic, RefpInit, PocDerivation}
use Rattle.commands.specs.declared.Expected.{Expected}
use Rattle.commands.specs.declared.draft.Draft.{Draft}
use Rattle.commands.specs.declared.draft.PutParts.{PutParts}
use Rattle.commands.specs.declared.draft.ListParts.{ListParts}
use Rattle.commands.specs.Numbers.{number_to, signed_number}

-- Whether a word is this one.
abbrev pub is : String → List ℕ → Bool
is name word = bytes_eq word (codes name)

abbrev pub byte_of : List ℕ → Option ℕ
byte_of = number_to 255

abbrev pub number_of : List ℕ → Option ℕ
number_of = number_to 4294967295

abbrev pub command_word : List ℕ → Option Draft
command_word w =
    cond (is "init" w) (Some Draft.Init)
    (cond (is "get" w) (Some Draft.Get)
    (cond (is "put" w) (Some Draft.Put)
    (cond (is "out" w) (Some Draft.Out)
    (cond (is "lists" w) (Some Draft.Lists)
    (cond (is "derive" w) (Some Draft.Derive) None)))))

-- A put of which its number was read, and none of its parts.
abbrev pub put_of : ℕ → Bool → PutParts
put_of poc none = record { poc = poc; layer = None; gap = None; idr = false; out = false; reference = false; none = none }

-- A picture is its number, or `none`, which is number 0 and the part `none`.
abbrev pub picture_word : List ℕ → Option PutParts
picture_word w = cond (is "none" w) (Some (put_of 0 true)) (option_map (λ poc. put_of poc false) (number_of w))

-- A slice is I, P, B, or its byte.
abbrev pub slice_word : List ℕ → Option ℕ
slice_word w = cond (is "I" w) (Some 1) (cond (is "P" w) (Some 2) (cond (is "B" w) (Some 3) (byte_of w)))

-- A part that is named twice does not fit.
abbrev pub put_part : PutParts → List ℕ → Option Draft
put_part p w =
    cond (is "layer" w && is_none p.layer) (Some (Draft.PutLayer p))
    (cond (is "gap" w && is_none p.gap) (Some (Draft.PutGap p))
    (cond (is "idr" w && not p.idr) (Some (Draft.PutPart (record p { idr = true })))
    (cond (is "out" w && not p.out) (Some (Draft.PutPart (record p { out = true })))
    (cond (is "ref" w && not p.reference) (Some (Draft.PutPart (record p { reference = true })))
    (cond (is "none" w && not p.none) (Some (Draft.PutPart (record p { none = true }))) None)))))

abbrev pub list_part : ListParts → List ℕ → Option Draft
list_part l w =
    cond (is "layer" w && is_none l.layer) (Some (Draft.ListLayer l))
    (cond (is "intra" w && is_none l.intra) (Some (Draft.ListIntra l))
    (cond (is "limit" w && is_none l.limit) (Some (Draft.ListLimit l)) None))

-- A list call of which its slice and its number were read, and none of its parts.
abbrev pub lists_of : ℕ → ℕ → ListParts
lists_of slice poc = record { slice = slice; poc = poc; layer = None; intra = None; limit = None }

-- The draft with one more word, where the word fits.
unfoldable pub next : Draft → List ℕ → Option Draft
next Draft.Command w = command_word w
next Draft.Init w = option_map Draft.InitRefs (byte_of w)
next (Draft.InitRefs size) w = option_map (Draft.InitEnd size) (byte_of w)
next Draft.Put w = option_map Draft.PutPart (picture_word w)
next (Draft.PutPart p) w = put_part p w
next (Draft.PutLayer p) w = option_map (λ layer. Draft.PutPart (record p { layer = Some layer })) (byte_of w)
next (Draft.PutGap p) w = option_map (λ gap. Draft.PutPart (record p { gap = Some gap })) (number_of w)
next Draft.Lists w = option_map Draft.ListsNumber (slice_word w)
next (Draft.ListsNumber slice) w = option_map (λ poc. Draft.ListPart (lists_of slice poc)) (number_of w)
next (Draft.ListPart l) w = list_part l w
next (Draft.ListLayer l) w = option_map (λ layer. Draft.ListPart (record l { layer = Some layer })) (byte_of w)
next (Draft.ListIntra l) w = option_map (λ intra. Draft.ListPart (record l { intra = Some intra })) (signed_number w)
next (Draft.ListLimit l) w = option_map (λ limit. Draft.ListPart (record l { limit = Some limit })) (byte_of w)
next Draft.Derive w = option_map Draft.DeriveLayer (byte_of w)
next (Draft.DeriveLayer length) w = option_map (Draft.DeriveEnd length) (byte_of w)
next d w = None

-- What has to come next.
abbrev pub expected : Draft → Expected
expected Draft.Command = Expected.Command
expected Draft.Init = Expected.First
expected (Draft.InitRefs size) = Expected.Second
expected Draft.Put = Expected.Picture
expected (Draft.PutPart p) = Expected.PutPart
expected (Draft.PutLayer p) = Expected.Layer
expected (Draft.PutGap p) = Expected.Gap
expected Draft.Lists = Expected.Slice
expected (Draft.ListsNumber slice) = Expected.Number
expected (Draft.ListPart l) = Expected.ListPart
expected (Draft.ListLayer l) = Expected.Layer
expected (Draft.ListIntra l) = Expected.Intra
expected (Draft.ListLimit l) = Expected.Limit
expected Draft.Derive = Expected.First
expected (Draft.DeriveLayer length) = Expected.Second
expected Draft.Get = Expected.End
expected Draft.Out = Expected.End
expected (Draft.InitEnd size refs) = Expected.End
expected (Draft.DeriveEnd length layer) = Expected.End

abbrev pub step : Draft → List ℕ → Result Draft Expected
step d w = ok_or (next d w) (expected d)

-- A put's flags: 1 IDR, 2 wanted for output, 4 reference, 8 no picture.
abbrev pub bit : Bool → ℕ
bit b = cond b 1 0

-- The calls of the parts: layer, gap and last intra are usually 0, the list limit 21.
abbrev pub put_call : PutParts → Call
put_call p = PutPic (bit p.idr + 2 * bit p.out + 4 * bit p.reference + 8 * bit p.none) p.poc (unwrap_or p.layer 0) (unwrap_or p.gap 0)

abbrev pub list_call : ListParts → Call
list_call l = RefpInit l.slice l.poc (unwrap_or l.layer 0) (unwrap_or l.intra 0) (unwrap_or l.limit 21)

-- What a line says that ends here: nothing, where it has no word; a call; or what was expected.
abbrev pub finished : Draft → Result (Option Call) Expected
finished Draft.Command = Ok None
finished (Draft.PutPart p) = Ok (Some (put_call p))
finished (Draft.ListPart l) = Ok (Some (list_call l))
finished Draft.Get = Ok (Some GetEmptyPic)
finished Draft.Out = Ok (Some OutPic)
finished (Draft.InitEnd size refs) = Ok (Some (Init size refs))
finished (Draft.DeriveEnd length layer) = Ok (Some (PocDerivation length layer))
finished d = Err (expected d)
