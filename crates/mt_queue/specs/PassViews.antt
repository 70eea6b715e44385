-- What the passes of a line's queue know: a sender's, a receiver's, one that is both, and one that is used up.
-- A word with no source is this project's rule.
use Rattle.std.specs.Prelude.{ℕ, true, false, List, [], length, map}
use Rattle.std.specs.declared.alloc.Global.{Global}
use Rattle.std.specs.Arc.{arc_value}
use Rattle.std.specs.declared.sync.Arc.{Arc}
use Rattle.mt_events.specs.Posts.{PostView}
use Rattle.mt_queue.specs.Openings.{no_opening}
use Rattle.mt_queue.specs.declared.rule.PassView.{PassView}
use Rattle.mt_queue.specs.declared.rule.TaggedOpening.{TaggedOpening}

-- a post that several lines hold
abbrev pub Item : Type 0
Item = Arc PostView Global

-- the posts after these
abbrev pub values : List Item → List PostView
values items = map (λ x. arc_value x) items

-- a pass that may push and pop, after this opening, when nothing was sent yet
abbrev pub whole : TaggedOpening → ℕ → PassView
whole o capacity = record { pushes = true; pops = true; opening = o; heard = o; capacity = capacity; sent = []; taken = []; met = 0; told = 0 }

-- the sender's part of what a pass knows, and how many posts were taken
abbrev pub sending : PassView → PassView
sending v = record { pushes = true; pops = false; opening = v.opening; heard = no_opening; capacity = v.capacity; sent = v.sent; taken = []; met = length v.taken; told = 0 }

-- the receiver's part, and how many posts were sent
abbrev pub taking : PassView → PassView
taking v = record { pushes = false; pops = true; opening = no_opening; heard = v.heard; capacity = 0; sent = []; taken = v.taken; met = 0; told = length v.sent }

-- a pass that is used up may do nothing
abbrev pub spent : PassView
spent = record { pushes = false; pops = false; opening = no_opening; heard = no_opening; capacity = 0; sent = []; taken = []; met = 0; told = 0 }

-- what a sender's pass and a receiver's know together
abbrev pub joined : PassView → PassView → PassView
joined v w = record { pushes = true; pops = true; opening = v.opening; heard = w.heard; capacity = v.capacity; sent = v.sent; taken = w.taken; met = v.met; told = w.told }

-- what no pass knows: that one post was sent at least, and that none was
abbrev pub impossible : PassView
impossible = record { pushes = true; pops = true; opening = no_opening; heard = no_opening; capacity = 0; sent = []; taken = []; met = 0; told = 1 }
