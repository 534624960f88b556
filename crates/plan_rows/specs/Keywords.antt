-- The first words of lines, and whether two of them are the same, by the place of each in the list of all.
use Rattle.std.specs.Prelude.{ℕ, ◌==◌, Bool, List, codes}
use Rattle.plan_rows.specs.declared.keyword.Keyword.{Keyword}
use Rattle.plan_rows.specs.declared.keyword.Keyword.TheVariants.{Drmplan, Carry, First, Length, Config, Mode, Occupancy, Depth, Msc, Sdc, Protection, Room, Service, Stream, Clock, Block, Label, Freq, When, App, Audio, Language, Raw, Feed, Take, Packet, Packets, Back}

abbrev pub keyword_text : Keyword → List ℕ
keyword_text Drmplan = codes "drmplan"
keyword_text Carry = codes "carry"
keyword_text First = codes "first"
keyword_text Length = codes "length"
keyword_text Config = codes "config"
keyword_text Mode = codes "mode"
keyword_text Occupancy = codes "occupancy"
keyword_text Depth = codes "depth"
keyword_text Msc = codes "msc"
keyword_text Sdc = codes "sdc"
keyword_text Protection = codes "protection"
keyword_text Room = codes "room"
keyword_text Service = codes "service"
keyword_text Stream = codes "stream"
keyword_text Clock = codes "clock"
keyword_text Block = codes "block"
keyword_text Label = codes "label"
keyword_text Freq = codes "freq"
keyword_text When = codes "when"
keyword_text App = codes "app"
keyword_text Audio = codes "audio"
keyword_text Language = codes "language"
keyword_text Raw = codes "raw"
keyword_text Feed = codes "feed"
keyword_text Take = codes "take"
keyword_text Packet = codes "packet"
keyword_text Packets = codes "packets"
keyword_text Back = codes "back"

abbrev pub keyword_number : Keyword → ℕ
keyword_number Drmplan = 0
keyword_number Carry = 1
keyword_number First = 2
keyword_number Length = 3
keyword_number Config = 4
keyword_number Mode = 5
keyword_number Occupancy = 6
keyword_number Depth = 7
keyword_number Msc = 8
keyword_number Sdc = 9
keyword_number Protection = 10
keyword_number Room = 11
keyword_number Service = 12
keyword_number Stream = 13
keyword_number Clock = 14
keyword_number Block = 15
keyword_number Label = 16
keyword_number Freq = 17
keyword_number When = 18
keyword_number App = 19
keyword_number Audio = 20
keyword_number Language = 21
keyword_number Raw = 22
keyword_number Feed = 23
keyword_number Take = 24
keyword_number Packet = 25
keyword_number Packets = 26
keyword_number Back = 27

abbrev pub same : Keyword → Keyword → Bool
same a b = keyword_number a == keyword_number b
