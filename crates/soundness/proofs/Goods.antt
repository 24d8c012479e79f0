-- What holds of each item, and that the changes of an item keep it.
use Rattle.std.proofs.Common.{ℕ, ◌-◌, ◌<◌, Bool, true, false, cond, leb, List, Some, refl, ◌∙◌, inl, inr, arith, Option}
use Rattle.values.specs.declared.value.Sample.{Sample}
use Rattle.sources.specs.declared.source.Standing.{Standing}
use Rattle.sources.specs.Standings.{sample_of}
use Rattle.items.specs.declared.item.Mode.{Mode}
use Rattle.items.specs.declared.item.Mode.TheVariants.{Disabled, Sampling, Reporting}
use Rattle.items.specs.declared.item.Identity.{Identity}
use Rattle.items.specs.declared.item.Settings.{Settings}
use Rattle.items.specs.Item.{Item, created, counting, with_waiting, accepts, offered, by_mode, ticked, modified, between, moded, served}
use Rattle.items.specs.Keys.{id_of as item_id}
use Rattle.items.specs.Queue.{queued, queue_size_of}
use Rattle.model.specs.Sound.{In, Newest, Fitting}
use Rattle.soundness.proofs.Members.{none_some}
use Rattle.soundness.proofs.Waiting.{newest_rest, length_rest, queued_newest, queued_fits, resized_fits}

-- an item with an id below n, of one of the subscriptions
abbrev pub Good : ℕ → List ℕ → Item → Type 0
Good n ids x = (item_id x < n) × In x.identity.subscription ids × Newest x × Fitting x

module _ (n : ℕ) (ids : List ℕ) where
  pub good_created : (i : Identity) (s : Settings) (q : ℕ) (m : Mode) → i.id < n → In i.subscription ids → Good n ids (created i s (queue_size_of q) m)
  good_created i s q m l h = (l, h, (λ v e. inl refl), (omega arith, omega arith, omega arith))

  pub good_modified : (x : Item) (s : Settings) (q : ℕ) → Good n ids x → Good n ids (modified x s (queue_size_of q))
  good_modified x s q g = (g.0, g.1, (λ v e. absurd (none_some e)), (omega arith, omega arith, resized_fits (queue_size_of q) x.waiting))

  pub good_between : (a b : Mode) (x : Item) → Good n ids x → Good n ids (between a b x)
  good_between Disabled Disabled x g = g
  good_between Disabled Sampling x g = (g.0, g.1, (λ v e. absurd (none_some e)), g.3)
  good_between Disabled Reporting x g = (g.0, g.1, (λ v e. absurd (none_some e)), g.3)
  good_between Sampling Disabled x g = (g.0, g.1, (λ v e. inl refl), (g.3.0, g.3.1, omega arith))
  good_between Sampling Sampling x g = g
  good_between Sampling Reporting x g = g
  good_between Reporting Disabled x g = (g.0, g.1, (λ v e. inl refl), (g.3.0, g.3.1, omega arith))
  good_between Reporting Sampling x g = g
  good_between Reporting Reporting x g = g

  pub good_moded : (x : Item) (m : Mode) → Good n ids x → Good n ids (moded x m)
  good_moded x m g = good_between x.mode m x g

  pub good_served : (x : Item) → Good n ids x → Good n ids (served x)
  good_served x g =
      let r = length_rest x.waiting in
      let f = g.3.2 in
      (g.0, g.1, (λ v e. newest_rest x.waiting v (g.2 v e)), (g.3.0, g.3.1, omega arith))

  pub good_offered : (x : Item) (s : Sample) → Good n ids x → Good n ids (offered x s)
  good_offered x s g = at (accepts x.last x.settings.filter s)
    where
      at : (b : Bool) → Good n ids (cond b (with_waiting x (Some s) (queued x.size x.settings.discard_oldest x.waiting s)) x)
      at true = (
        g.0,
        g.1,
        (λ v e. inr (queued_newest x.size x.waiting s x.settings.discard_oldest ∙ e)),
        (g.3.0, g.3.1, queued_fits x.size x.waiting s x.settings.discard_oldest g.3.0 g.3.2),
      )
      at false = g

  pub good_ticked : (stands : ℕ → Option Standing) (x : Item) → Good n ids x → Good n ids (ticked stands x)
  good_ticked stands x g = mode x.mode
    where
      at : (b : Bool) → Good n ids (cond b (offered (counting x x.settings.interval) (sample_of (stands x.identity.node))) (counting x (x.countdown - 1)))
      at true = good_offered (counting x x.settings.interval) (sample_of (stands x.identity.node)) g
      at false = g

      mode : (m : Mode) → Good n ids (by_mode m stands x)
      mode Disabled = g
      mode Sampling = at (leb x.countdown 1)
      mode Reporting = at (leb x.countdown 1)
