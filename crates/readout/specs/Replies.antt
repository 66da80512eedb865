-- What is replied to a request. Assumes nothing.
use Rattle.std.specs.Prelude.{◌≡◌, ℕ, ◌+◌, Bool, true, cond, ◌&&◌, ◌⊎◌, List, ◌++◌, length, take, drop, Some, None, Ok, Err, codes, decimal, Option, Result, nat_le, nat_lt}
use Rattle.model.specs.Spelling.{Word}
use Rattle.model.specs.Witnesses.{Contents, spelled, valid}
use Rattle.text.specs.Names.{variable_name}
use Rattle.text.specs.Pieces.{Bytes}
use Rattle.text.specs.Refusals.{refusal_text}
use Rattle.format.specs.Listing.{listing}
use Rattle.format.specs.Reading.{Refused}
use Rattle.witness.specs.Answers.{as_text}
use Rattle.listing.specs.declared.refusals.ReadRefusal.{ReadRefusal}
use Rattle.listing.specs.declared.refusals.ReadRefusal.TheVariants.{NotListing}
use Rattle.readout.specs.declared.request.Request.{Request}
use Rattle.readout.specs.declared.request.Request.TheVariants.{Table, Stretch as StretchRequest}
use Rattle.readout.specs.declared.request.Stretch.{Stretch}
use Rattle.model.specs.Buffers.{Put}
use Rattle.readout.specs.declared.replying.Reply.{Reply}
use Rattle.readout.specs.declared.replying.Reply.TheVariants.{Granted, Refused as RefusedReply}
use Rattle.readout.specs.declared.replying.ReplyRefusal.{ReplyRefusal}
use Rattle.readout.specs.declared.replying.ReplyRefusal.TheVariants.{BufferTooShort}
use Rattle.readout.specs.Rows.{table}

abbrev pub refused_line : ReadRefusal → ℕ
refused_line (NotListing line) = line

-- the text that was asked for, or the text of a refusal
abbrev pub Said : Type 0
Said = Result Bytes Bytes

-- how a refusal names a variable
abbrev pub named : ℕ → Bytes
named x = cond (nat_lt x 26) (variable_name x) (codes "-")

-- of the word that a variable's word spells: the letters of a stretch
abbrev pub stretch_said : Option Word → Stretch → Said
stretch_said None s = Err (refusal_text 61 0 (named s.variable))
stretch_said (Some w) s = cond (nat_le (s.start + s.count) (length w)) (Ok (as_text (take s.count (drop s.start w)) ++ codes "\n")) (Err (refusal_text 62 0 (named s.variable)))

-- of a listing of these contents
abbrev pub said : Request → Contents → Said
said Table c = Ok (table c)
said (StretchRequest s) c = stretch_said (spelled c s.variable) s

-- of any input: what the listing says, or the first line that no listing has there
abbrev pub Replied : Request → Bytes → Said → Type 0
Replied request input reply =
    ((c : Contents) × (valid c ≡ true) × (input ≡ listing c) × (reply ≡ said request c))
    ⊎ ((k : ℕ) × Refused input k × (reply ≡ Err (refusal_text 72 k (codes "-"))))

-- a buffer of so many bytes has room for what is replied to a request
abbrev pub has_room : Request → ℕ → Bool
has_room Table room = nat_le 4000 room
has_room (StretchRequest s) room = nat_le 4000 room && nat_lt s.count room

-- the number of the refusal of a buffer that has none
abbrev pub reply_number : ReplyRefusal → ℕ
reply_number BufferTooShort = 91

-- the place behind a reply
abbrev pub end_of : Reply → ℕ
end_of (Granted n) = n
end_of (RefusedReply n) = n

-- this is what stands at the front of a buffer, and what stands behind it is as it was
abbrev pub Says : Reply → Said → List ℕ → List ℕ → Type 0
Says (Granted n) answer old new = (text : Bytes) × (answer ≡ Ok text) × Put old 0 text new n
Says (RefusedReply n) answer old new = (text : Bytes) × (answer ≡ Err text) × Put old 0 text new n

-- it is what is replied to the request
abbrev pub Answers : Reply → Request → Bytes → List ℕ → List ℕ → Type 0
Answers reply request input old new = (answer : Said) × Replied request input answer × Says reply answer old new
