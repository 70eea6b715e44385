use Rattle.std.proofs.Common.{◌≡◌, ◌++◌, drop}
use Rattle.std.specs.List.{flat_map}
use Rattle.mt_render.specs.PageData.{inert_byte}
use Rattle.mt_render.proofs.page_text.push_inert.Given as goal

-- the bytes that were appended, and those to come
abbrev pub invariant-bytes : goal.invariant-bytes
invariant-bytes l = l.text.items ++ flat_map inert_byte (drop l.byte-index l.bytes) ≡ l.initial.text.items ++ flat_map inert_byte l.bytes
