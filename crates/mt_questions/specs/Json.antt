-- Answers as JSON, an object a line (RFC 8259). Texts are strings, in which each sequence that is no UTF-8 is U+FFFD.
-- A word with no source is this project's rule.
use Rattle.std.specs.Prelude.{ℕ, Bool, true, false, cond, List, [], ◌∷◌, ◌++◌, Option, Some, None, is_some, codes, decimal}
use Rattle.std.specs.List.{flat_map}
use Rattle.std.specs.Option.{option_map_or}
use Rattle.std.specs.Str.Lossy.{utf8_lossy}
use Rattle.mt_skel.specs.Skeleton.{path_eq}
use Rattle.serde_json.specs.Data.{string}
use Rattle.serde_json.specs.Written.{compact_text}
use Rattle.mt_terminal.specs.Terminal.{quoted_text}
use Rattle.mt_reach.specs.declared.row.Device.{Device}
use Rattle.mt_reach.specs.declared.row.SeenDirectory.{SeenDirectory}
use Rattle.mt_reach.specs.declared.reason.WhyNot.{WhyNot}
use Rattle.mt_reach.specs.declared.reason.WhyNot.TheVariants.{SourcePrivate, SourceUnbindable, StartsInSlave, Siblings, OnlySlave, Private, Unbindable, OtherGroup}
use Rattle.mt_questions.specs.declared.copies.Sight.{Sight}
use Rattle.mt_questions.specs.declared.copies.Sight.TheVariants.{Seen, NoRoot, AtRoot, BehindCopy, Behind}
use Rattle.mt_questions.specs.declared.copies.Spot.{Spot}
use Rattle.mt_questions.specs.declared.copies.Way.{Way}
use Rattle.mt_questions.specs.declared.copies.Way.TheVariants.{Peer, Masters, Told}
use Rattle.mt_questions.specs.declared.remedy.ApartMount.{ApartMount}
use Rattle.mt_questions.specs.declared.remedy.Elsewhere.{Elsewhere}
use Rattle.mt_questions.specs.declared.remedy.Elsewhere.TheVariants.{Both, Alone, InFront, Nowhere}
use Rattle.mt_questions.specs.declared.remedy.Join.{Join}
use Rattle.mt_questions.specs.declared.remedy.Joining.{Joining}
use Rattle.mt_questions.specs.declared.remedy.Joining.TheVariants.{Unneeded, Bind, Anew, Again}
use Rattle.mt_questions.specs.Copies.{ReachedView}
use Rattle.mt_questions.specs.Holders.{HolderView}
use Rattle.mt_questions.specs.Origin.{OriginView}
use Rattle.mt_questions.specs.Reach.{ReachView, UntoldView}
use Rattle.mt_questions.specs.Tables.{SeenView, called_name}
use Rattle.mt_questions.specs.Wording.{path_words, directory_words, device_words}

-- a text as a string, with no character that a terminal obeys
unfoldable pub string_json : List ℕ → List ℕ
string_json bytes = quoted_text (compact_text (string (utf8_lossy bytes)))

-- a list of values
abbrev pub items_json : {X : Type 0} → (X → List ℕ) → List X → List ℕ
items_json value [] = []
items_json value (x ∷ xs) = value x ++ flat_map (λ y. codes "," ++ value y) xs

unfoldable pub list_json : {X : Type 0} → (X → List ℕ) → List X → List ℕ
list_json value xs = codes "[" ++ items_json value xs ++ codes "]"

abbrev pub numbers_json : List ℕ → List ℕ
numbers_json ns = list_json decimal ns

-- a number, if there is one
unfoldable pub option_json : Option ℕ → List ℕ
option_json o = option_map_or decimal o (codes "null")

unfoldable pub bool_json : Bool → List ℕ
bool_json b = cond b (codes "true") (codes "false")

-- a namespace, by what people call it
abbrev pub space_json : SeenView → ℕ → List ℕ
space_json t n = string_json (called_name t n)

-- the name of a value, with what stands in front of it, and the value
unfoldable pub under_name : List ℕ → List ℕ → List ℕ
under_name name value = name ++ value

-- the beginning of an object that tells of a path in a namespace
unfoldable pub where_json : SeenView → ℕ → List (List ℕ) → List ℕ
where_json t n path = under_name (codes "{\"namespace\":") (space_json t n) ++ under_name (codes ",\"target\":") (string_json (path_words path))

-- where a mount stands, or would stand
unfoldable pub mount_json : ℕ → List ℕ
mount_json i = under_name (codes ",\"mount\":") (decimal i)

unfoldable pub spot_json : SeenView → Spot → List ℕ
spot_json t s = where_json t s.space s.point ++ mount_json s.mount

abbrev pub way_json : Way → List ℕ
way_json Peer = codes "\"peer\""
way_json Masters = codes "\"slave\""
way_json Told = codes "\"told\""

-- whether a path leads to a copy
abbrev pub shows_copy : Sight → Bool
shows_copy Seen = true
shows_copy s = false

-- the mount that hides it, and the mount whose copy does
abbrev pub behind_of : Sight → Option ℕ
behind_of (Behind i) = Some i
behind_of s = None

abbrev pub behind_copy_of : Sight → Option ℕ
behind_copy_of (BehindCopy i) = Some i
behind_copy_of s = None

unfoldable pub seen_json : Sight → List ℕ
seen_json s = under_name (codes ",\"seen\":") (bool_json (shows_copy s))

unfoldable pub hidden_json : Option ℕ → List ℕ
hidden_json o = under_name (codes ",\"hidden-by\":") (option_json o)

unfoldable pub hidden_by_copy_json : Sight → List ℕ
hidden_by_copy_json s = under_name (codes ",\"hidden-by-copy-on\":") (option_json (behind_copy_of s))

unfoldable pub sight_json : Sight → List ℕ
sight_json s = seen_json s ++ hidden_json (behind_of s) ++ hidden_by_copy_json s

-- how a copy comes
unfoldable pub by_json : ReachedView → List ℕ
by_json c = under_name (codes ",\"by\":") (way_json c.way) ++ under_name (codes ",\"masters\":") (numbers_json c.between)

unfoldable pub stops_json : Bool → List ℕ
stops_json stops = under_name (codes ",\"can-be-stopped\":") (bool_json stops)

unfoldable pub copy_json : SeenView → ReachedView → List ℕ
copy_json t c = spot_json t c.spot ++ by_json c ++ sight_json c.sight ++ stops_json c.stops ++ codes "}"

-- the groups without a member
unfoldable pub missing_json : List ℕ → List ℕ
missing_json groups = under_name (codes ",\"missing\":") (numbers_json groups)

unfoldable pub untold_json : SeenView → UntoldView → List ℕ
untold_json t u = spot_json t u.spot ++ missing_json u.missing ++ codes "}"

abbrev pub why_json : WhyNot → List ℕ
why_json SourcePrivate = codes "\"source-private\""
why_json SourceUnbindable = codes "\"source-unbindable\""
why_json StartsInSlave = codes "\"starts-in-slave\""
why_json (Siblings g) = codes "\"siblings\""
why_json OnlySlave = codes "\"only-slave\""
why_json Private = codes "\"private\""
why_json Unbindable = codes "\"unbindable\""
why_json OtherGroup = codes "\"other-group\""

-- where else the mount could be made: on which mount, so that it comes to both, or to this one; or which mount is in front
unfoldable pub elsewhere_json : Elsewhere → List ℕ
elsewhere_json (Both i) = codes ",\"made-on\":" ++ decimal i ++ codes ",\"comes-to\":\"both\",\"in-front\":null"
elsewhere_json (Alone i) = codes ",\"made-on\":" ++ decimal i ++ codes ",\"comes-to\":\"this\",\"in-front\":null"
elsewhere_json (InFront i) = codes ",\"made-on\":null,\"comes-to\":null,\"in-front\":" ++ decimal i
elsewhere_json Nowhere = codes ",\"made-on\":null,\"comes-to\":null,\"in-front\":null"

abbrev pub joining_json : Joining → List ℕ
joining_json Unneeded = codes "null"
joining_json Bind = codes "\"bind\""
joining_json Anew = codes "\"anew\""
joining_json Again = codes "\"again\""

-- how the two would be joined: how one is made anew, which from which, and whether that is made shared before
unfoldable pub how_json : Joining → List ℕ
how_json how = under_name (codes ",\"join\":{\"how\":") (joining_json how)

unfoldable pub ends_json : Join → List ℕ
ends_json j = under_name (codes ",\"from\":") (decimal j.from) ++ under_name (codes ",\"to\":") (decimal j.to)

unfoldable pub share_json : Bool → List ℕ
share_json shares = under_name (codes ",\"share\":") (bool_json shares)

unfoldable pub join_json : Join → List ℕ
join_json j = how_json j.how ++ ends_json j ++ share_json j.shares ++ codes "}"

unfoldable pub reason_json : WhyNot → List ℕ
reason_json why = under_name (codes ",\"reason\":") (why_json why)

unfoldable pub apart_json : SeenView → ApartMount → List ℕ
apart_json t a = spot_json t a.spot ++ reason_json a.why ++ elsewhere_json a.elsewhere ++ join_json a.join ++ codes "}"

-- the directory where a path ends, its device, and whether a mount is refused there
unfoldable pub directory_json : SeenDirectory → List ℕ
directory_json d = under_name (codes ",\"directory\":") (string_json (directory_words d))

unfoldable pub device_json : Device → List ℕ
device_json d = under_name (codes ",\"maj:min\":") (string_json (device_words d))

unfoldable pub refused_json : List (List ℕ) → List ℕ
refused_json path = under_name (codes ",\"refused\":") (bool_json (path_eq path []))

unfoldable pub end_json : ReachView → List ℕ
end_json a = directory_json a.directory ++ device_json a.directory.device ++ refused_json a.path

-- the place
unfoldable pub place_json : SeenView → ReachView → List ℕ
place_json t a = where_json t a.space a.path ++ mount_json a.mount ++ end_json a

-- the mounts that get and do not show the directory, the namespaces without it, the groups without a member, and whether all was read
unfoldable pub passes_json : List ℕ → List ℕ
passes_json ids = under_name (codes ",\"passes\":") (numbers_json ids)

unfoldable pub without_json : SeenView → List ℕ → List ℕ
without_json t spaces = under_name (codes ",\"without\":") (list_json (space_json t) spaces)

unfoldable pub complete_json : SeenView → List ℕ
complete_json t = under_name (codes ",\"complete\":") (bool_json t.complete)

unfoldable pub rest_json : SeenView → ReachView → List ℕ
rest_json t a = passes_json a.passes ++ without_json t a.without ++ missing_json a.missing ++ complete_json t ++ codes "}\n"

-- the copies, the mounts of which it is not told, and those to which nothing comes
unfoldable pub copies_json : SeenView → List ReachedView → List ℕ
copies_json t cs = under_name (codes ",\"copies\":") (list_json (copy_json t) cs)

unfoldable pub all_untold_json : SeenView → List UntoldView → List ℕ
all_untold_json t us = under_name (codes ",\"untold\":") (list_json (untold_json t) us)

unfoldable pub all_apart_json : SeenView → List ApartMount → List ℕ
all_apart_json t apart = under_name (codes ",\"apart\":") (list_json (apart_json t) apart)

-- the answer to the question where a mount comes
unfoldable pub reach_json : SeenView → ReachView → List ℕ
reach_json t a =
    place_json t a ++ copies_json t a.copies ++ all_untold_json t a.untold ++ all_apart_json t a.apart ++ rest_json t a

-- what the mount is that a path names
unfoldable pub is_mount_json : Bool → List ℕ
is_mount_json is = under_name (codes ",\"is-mount\":") (bool_json is)

unfoldable pub is_root_json : Bool → List ℕ
is_root_json is = under_name (codes ",\"is-root\":") (bool_json is)

unfoldable pub marks_json : OriginView → List ℕ
marks_json o = mount_json o.mount ++ is_mount_json o.is_mount ++ is_root_json o.is_root

-- what it gets from, and with what it goes
unfoldable pub peers_json : List ℕ → List ℕ
peers_json ids = under_name (codes ",\"peers\":") (numbers_json ids)

unfoldable pub masters_json : List ℕ → List ℕ
masters_json groups = under_name (codes ",\"masters\":") (numbers_json groups)

unfoldable pub goes_json : List ℕ → List ℕ
goes_json ids = under_name (codes ",\"goes-with\":") (numbers_json ids)

unfoldable pub ties_json : OriginView → List ℕ
ties_json o = peers_json o.peers ++ masters_json o.masters ++ goes_json o.takers ++ codes "}\n"

-- the answer to the question where a mount comes from
unfoldable pub origin_json : SeenView → OriginView → List ℕ
origin_json t o = where_json t o.space o.path ++ marks_json o ++ ties_json o

-- a mount that pins, and how many stand on it
unfoldable pub held_json : ℕ → List ℕ
held_json i = under_name (codes "{\"mount\":") (decimal i)

unfoldable pub standing_json : ℕ → List ℕ
standing_json n = under_name (codes ",\"standing\":") (decimal n)

unfoldable pub holder_json : HolderView → List ℕ
holder_json h = held_json h.mount ++ hidden_json h.front ++ standing_json h.standing ++ goes_json h.takers ++ codes "}"

-- the answer to the question what pins, under a title
unfoldable pub asked_json : List ℕ → List ℕ
asked_json title = under_name (codes "{\"asked\":") (string_json title)

unfoldable pub all_holders_json : List HolderView → List ℕ
all_holders_json hs = under_name (codes ",\"holders\":") (list_json holder_json hs)

unfoldable pub holders_json : List ℕ → List HolderView → List ℕ
holders_json title hs = asked_json title ++ all_holders_json hs ++ codes "}\n"
