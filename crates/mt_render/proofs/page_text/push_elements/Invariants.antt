use Rattle.std.proofs.Common.{◌≡◌, ◌++◌, drop}
use Rattle.std.specs.List.{flat_map}
use Rattle.mt_render.specs.PageData.{parted}
use Rattle.mt_render.proofs.page_text.push_elements.Given as goal

-- the bytes that were appended, and those to come
abbrev pub invariant-bytes : goal.invariant-bytes
invariant-bytes l = l.text.items ++ flat_map (parted l.separator) (drop l.byte-index l.front) ≡ l.initial.text.items ++ flat_map (parted l.separator) l.front
