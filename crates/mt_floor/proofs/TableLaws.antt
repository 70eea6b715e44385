-- The headline's second half, of every list of events.
use Rattle.std.proofs.Common.{◌≡◌, ℕ, true, ◌==◌, List, [], ◌∷◌, ◌++◌, Some, slice_get, Ok, sym, ap, ◌∙◌, subst, append_assoc}
use Rattle.std.proofs.lemmas.List.Elements.{filter-append}
use Rattle.mt_info.specs.declared.row.Row.{Row}
use Rattle.mt_info.specs.Table.{table_of}
use Rattle.mt_events.specs.Posts.{PostView}
use Rattle.mt_events.specs.declared.opening.Opening.{Opening}
use Rattle.mt_events.specs.Difference.{with_posts}
use Rattle.mt_events.specs.Following.{names_space, start_table, space_posts, table_made}
use Rattle.mt_book.specs.declared.command.Command.{Command}
use Rattle.mt_book.specs.Step.{after}
use Rattle.mt_book.specs.History.{posts_from}
use Rattle.mt_book.specs.Laws.{IsTableAsOf}
use Rattle.mt_book.proofs.HistoryLaws.{tables_told}
use Rattle.mt_floor.specs.declared.event.Event.{Event}
use Rattle.mt_floor.specs.declared.event.Answer.TheVariants.{Opened}
use Rattle.mt_floor.specs.Headline.{accepted, answers, accepted_before, accepted_since, taken_since, followed_since, IsRebuilt, TellTables}
use Rattle.mt_floor.proofs.RunLaws.{journal_told}
use Rattle.mt_floor.proofs.HeadLaws.{held_at, opening_told}
use Rattle.mt_floor.proofs.FollowedLaws.{space_followed}
use Rattle.mt_floor.proofs.OpeningLaws.{tables_found}

module _ (capacity : ℕ) (es : List Event) (at key : ℕ) (o : Opening) (is : slice_get (answers capacity es) at ≡ Some (Ok (Opened key o))) where
  pub all_told : accepted es (answers capacity es) ≡ accepted_before capacity es at ++ accepted_since capacity es at
  all_told = sym (journal_told capacity es) ∙ (held_at capacity es at key o is).journal

  table_found : (n : ℕ) → names_space o.scope n ≡ true → start_table o n ≡ table_of (after (accepted_before capacity es at)) n
  table_found n named = ap (λ x. start_table x n) (opening_told capacity es at key o is) ∙ tables_found (accepted_before capacity es at) o.scope n named

  -- Posts that are the first of those that a watcher follows: those of a namespace are the first of its posts.
  module _ (ps rest : List PostView) (first : followed_since capacity es at o.scope ≡ ps ++ rest) where
    space_first : (n : ℕ) → names_space o.scope n ≡ true
        → space_posts n (posts_from (accepted_before capacity es at) (accepted_since capacity es at)) ≡ space_posts n ps ++ space_posts n rest
    space_first n named =
        sym (space_followed o.scope n named (posts_from (accepted_before capacity es at) (accepted_since capacity es at)))
        ∙ ap (space_posts n) first
        ∙ filter-append (λ (p : PostView). p.space == n) ps rest

    table_told : (n : ℕ) (front : List PostView) (p : PostView) → names_space o.scope n ≡ true → space_posts n ps ≡ front ++ p ∷ []
        → IsTableAsOf n p (accepted es (answers capacity es)) (table_made o n ps)
    table_told n front p named e =
        let t = tables_told n (accepted_before capacity es at) (accepted_since capacity es at) front p (space_posts n rest) (space_first n named ∙ ap (λ l. l ++ space_posts n rest) e) in
        subst (λ (l : List Command). IsTableAsOf n p l (table_made o n ps)) (sym all_told)
        (subst (λ (r : List Row). IsTableAsOf n p (accepted_before capacity es at ++ accepted_since capacity es at) r) (λ i. with_posts (sym (table_found n named) i) (sym e i)) t)

    pub posts_tell : TellTables capacity es o ps
    posts_tell = record { untouched = λ n named e. ap (with_posts (start_table o n)) e; as_of = table_told }

-- applied to what a watcher found, the posts that it has taken give each table as of the last of them
pub rebuild : (capacity : ℕ) (es : List Event) (at key : ℕ) (o : Opening) → slice_get (answers capacity es) at ≡ Some (Ok (Opened key o)) → IsRebuilt capacity es at key o
rebuild capacity es at key o is =
    let h = held_at capacity es at key o is in
    let taken = taken_since capacity es at key in
    let tell = posts_tell capacity es at key o is taken (h.first.not_taken ++ h.first.not_posted) (h.first.posted_is ∙ ap (λ l. l ++ h.first.not_posted) h.first.taken_is ∙ append_assoc taken h.first.not_taken h.first.not_posted) in
    record { found = table_found capacity es at key o is; untouched = tell.untouched; as_of = tell.as_of }
