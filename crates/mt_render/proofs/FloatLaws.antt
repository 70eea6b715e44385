-- No object of a mount has a float, so that each has one text.
use Rattle.std.proofs.Common.{◌≡◌, ℕ, zero, suc, List, [], ◌∷◌, ◌++◌, map, codes, decimal, false, Option, Some, None, Ordering, Less, Equal, Greater, nat_cmp, refl}
use Rattle.std.proofs.lemmas.Bool.{or_parts}
use Rattle.std.specs.Cmp.Lexicographic.{slice_cmp}
use Rattle.std.specs.List.{filter, join_with_byte}
use Rattle.std.specs.Ordering.{match_ordering}
use Rattle.serde_json.specs.Data.{Data, array, object, Members, no_members, member, put}
use Rattle.serde_json.specs.View.{items_of}
use Rattle.serde_json.specs.Written.{has_float, items_have_float, members_have_float}
use Rattle.mt_info.specs.declared.row.Row.{Row}
use Rattle.mt_info.specs.RowLine.{option_words}
use Rattle.mt_render.specs.Forest.{BranchView, is_top, child_rows, tree, strays}
use Rattle.mt_render.specs.Members.{text_data, number_data, path_bytes, source_bytes, kinds_text, with_name, with_standing, with_shown, with_kinds, with_group, with_groups, with_mount}
use Rattle.mt_render.specs.Listing.{space_members}
use Rattle.mt_render.specs.Objects.{with_children, node_with, flat_node, node, most_generations, is_deep, tree_nodes, listing}

put_free_at : (o : Ordering) (k l : List ℕ) (d e : Data) (ms : Members) → has_float d ≡ false → has_float e ≡ false → members_have_float ms ≡ false → members_have_float (put k d ms) ≡ false
    → members_have_float (match_ordering o (member k d (member l e ms)) (member l d ms) (member l e (put k d ms))) ≡ false
put_free_at Less k l d e ms fd fe fms later = rw (fd, fe, fms)
put_free_at Equal k l d e ms fd fe fms later = rw (fd, fms)
put_free_at Greater k l d e ms fd fe fms later = rw (fe, later)

-- an object has none where its members had none and the one that is put in has none
pub put_free : (k : List ℕ) (d : Data) (ms : Members) → has_float d ≡ false → members_have_float ms ≡ false → members_have_float (put k d ms) ≡ false
put_free k d no_members fd fms = rw fd
put_free k d (member l e ms) fd fms =
    let parts = or_parts (has_float e) (members_have_float ms) fms in
    put_free_at (slice_cmp nat_cmp k l) k l d e ms fd parts.0 parts.1 (put_free k d ms fd parts.1)

group_free : (k : List ℕ) (o : Option ℕ) (ms : Members) → members_have_float ms ≡ false → members_have_float (with_group k o ms) ≡ false
group_free k None ms fms = fms
group_free k (Some g) ms fms = put_free k (number_data g) ms refl fms

groups_free : (r : Row) (ms : Members) → members_have_float ms ≡ false → members_have_float (with_groups r ms) ≡ false
groups_free r ms fms =
    let shared = with_group (codes "shared") r.shared ms in
    let master = with_group (codes "master") r.master shared in
    group_free (codes "propagate_from") r.via master (group_free (codes "master") r.master shared (group_free (codes "shared") r.shared ms fms))

standing_free : (r : Row) (ms : Members) → members_have_float ms ≡ false → members_have_float (with_standing r ms) ≡ false
standing_free r ms fms =
    let id = put (codes "id") (number_data r.id) ms in
    let parent = put (codes "parent") (number_data r.parent) id in
    put_free (codes "target") (text_data (path_bytes r.point)) parent refl (put_free (codes "parent") (number_data r.parent) id refl (put_free (codes "id") (number_data r.id) ms refl fms))

shown_free : (r : Row) (ms : Members) → members_have_float ms ≡ false → members_have_float (with_shown r ms) ≡ false
shown_free r ms fms =
    let device = text_data (codes "0:" ++ decimal r.minor) in
    let source = put (codes "source") (text_data (source_bytes r.source r.root)) ms in
    let kind = put (codes "fstype") (text_data r.kind) source in
    let all = put (codes "maj:min") device kind in
    put_free (codes "fsroot") (text_data (path_bytes r.root)) all refl
    (put_free (codes "maj:min") device kind refl (put_free (codes "fstype") (text_data r.kind) source refl (put_free (codes "source") (text_data (source_bytes r.source r.root)) ms refl fms)))

kinds_free : (r : Row) (ms : Members) → members_have_float ms ≡ false → members_have_float (with_kinds r ms) ≡ false
kinds_free r ms fms =
    let options = text_data (join_with_byte 44 (option_words r.attrs)) in
    put_free (codes "propagation") (text_data (kinds_text r)) (put (codes "options") options ms) refl (put_free (codes "options") options ms refl fms)

-- the members of a mount have none, added to others that have none
pub mount_free : (r : Row) (ms : Members) → members_have_float ms ≡ false → members_have_float (with_mount r ms) ≡ false
unfolding with_mount
mount_free r ms fms = groups_free r (with_kinds r (with_shown r (with_standing r ms))) (kinds_free r (with_shown r (with_standing r ms)) (shown_free r (with_standing r ms) (standing_free r ms fms)))

children_free : (ds : List Data) (ms : Members) → items_have_float (items_of ds) ≡ false → members_have_float ms ≡ false → members_have_float (with_children ds ms) ≡ false
children_free [] ms fds fms = fms
children_free (d ∷ ds) ms fds fms = put_free (codes "children") (array (items_of (d ∷ ds))) ms fds fms

node_with_free : (r : Row) (ds : List Data) → items_have_float (items_of ds) ≡ false → has_float (node_with r ds) ≡ false
node_with_free r ds fds = children_free ds (with_mount r no_members) fds (mount_free r no_members refl)

-- the object of a mount without its children has none
pub flat_free : (r : Row) → has_float (flat_node r) ≡ false
flat_free r = node_with_free r [] refl

-- values that are made of a list one by one
all_free : {X : Type 0} (f : X → Data) → ((x : X) → has_float (f x) ≡ false) → (xs : List X) → items_have_float (items_of (map f xs)) ≡ false
all_free f each [] = refl
all_free f each (x ∷ xs) = rw (each x, all_free f each xs)

both_free : (ds es : List Data) → items_have_float (items_of ds) ≡ false → items_have_float (items_of es) ≡ false → items_have_float (items_of (ds ++ es)) ≡ false
both_free [] es fds fes = fes
both_free (d ∷ ds) es fds fes = let parts = or_parts (has_float d) (items_have_float (items_of ds)) fds in rw (parts.0, both_free ds es parts.1 fes)

node_free : (rows : List Row) (n : ℕ) (r : Row) → has_float (node rows n r) ≡ false
node_free rows zero r = flat_free r
node_free rows (suc n) r = node_with_free r (map (λ c. node rows n c) (child_rows rows r)) (all_free (λ c. node rows n c) (λ c. node_free rows n c) (child_rows rows r))

pub name_free : (name : List ℕ) (ms : Members) → members_have_float ms ≡ false → members_have_float (with_name name ms) ≡ false
name_free [] ms fms = fms
name_free (b ∷ bs) ms fms = put_free (codes "name") (text_data (b ∷ bs)) ms refl fms

pub listing_free : (n : ℕ) (name : List ℕ) (ds : List Data) → items_have_float (items_of ds) ≡ false → members_have_float (listing n name ds) ≡ false
listing_free n name ds fds =
    let numbered = put (codes "namespace") (number_data n) no_members in
    put_free (codes "filesystems") (array (items_of ds)) (with_name name numbered) fds (name_free name numbered (put_free (codes "namespace") (number_data n) no_members refl refl))

-- no list of mounts has one: of all by rising ID, of each below its parent, or of the one where a path ends
pub flat_listing_free : (n : ℕ) (name : List ℕ) (rows : List Row) → has_float (object (listing n name (map flat_node rows))) ≡ false
flat_listing_free n name rows = listing_free n name (map flat_node rows) (all_free flat_node flat_free rows)

pub nested_listing_free : (n : ℕ) (name : List ℕ) (rows : List Row) → has_float (object (listing n name (tree_nodes rows))) ≡ false
nested_listing_free n name rows =
    let tops = map (node rows most_generations) (filter (is_top rows) rows) in
    let flat = λ (b : BranchView). flat_node b.row in
    let deep = map flat (filter is_deep (tree rows)) in
    let others = map flat (strays rows) in
    listing_free n name (tops ++ (deep ++ others))
    (both_free tops (deep ++ others) (all_free (node rows most_generations) (node_free rows most_generations) (filter (is_top rows) rows))
    (both_free deep others (all_free flat (λ b. flat_free b.row) (filter is_deep (tree rows))) (all_free flat (λ b. flat_free b.row) (strays rows))))

-- nor has a namespace in a list
pub counted_free : (n : ℕ) (name : List ℕ) (mounts : ℕ) → has_float (object (space_members n name mounts)) ≡ false
counted_free n name mounts =
    let numbered = put (codes "namespace") (number_data n) no_members in
    put_free (codes "mounts") (number_data mounts) (with_name name numbered) refl (name_free name numbered (put_free (codes "namespace") (number_data n) no_members refl refl))

pub place_listing_free : (n : ℕ) (directory : List ℕ) (r : Row) → has_float (object (put (codes "directory") (text_data directory) (listing n [] (flat_node r ∷ [])))) ≡ false
place_listing_free n directory r = put_free (codes "directory") (text_data directory) (listing n [] (flat_node r ∷ [])) refl (flat_listing_free n [] (r ∷ []))
