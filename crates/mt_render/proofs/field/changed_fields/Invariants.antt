use Rattle.std.proofs.Common.{◌≡◌, ◌++◌, drop}
use Rattle.std.specs.List.{filter}
use Rattle.mt_render.specs.Wording.{field_differs}
use Rattle.mt_render.proofs.field.changed_fields.Given as goal

-- the fields found, and those to come
abbrev pub invariant-fields : goal.invariant-fields
invariant-fields l = l.changed.items ++ filter (field_differs l.before l.after) (drop l.field-index l.fields) ≡ filter (field_differs l.before l.after) l.fields
