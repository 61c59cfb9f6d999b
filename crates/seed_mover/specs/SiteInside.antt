-- What a site keeps.
use Rattle.std.specs.Prelude.{◌≡◌, false}
use Rattle.site_core.specs.Cursors.{IsCursorOf}
use Rattle.site_core.specs.Lasting.{IsKept}
use Rattle.seed_mover.specs.declared.site.Site.TheInside.{Inside}
use Rattle.site_runs.specs.SiteValues.{SiteValue, shapes_in}

abbrev pub view_of : Inside → SiteValue
view_of s = record { a = s.a; b = s.b; journal = s.journal; spent = s.spent }

-- no log of a site is spent
pub record AreFresh (v : SiteValue) : Type 0 where
  pub a : v.a.log.spent ≡ false
  pub b : v.b.log.spent ≡ false
  pub journal : v.journal.log.spent ≡ false

-- the phase fits what the volumes hold, whatever the rack says; the cursor of the search is right; and while the site is
-- not spent, no log of it is
pub record KeepsSite (s : Inside) : Type 0 where
  pub kept : IsKept (shapes_in (view_of s))
  pub cursor : IsCursorOf s.a.shape s.b.shape s.journal.phase s.cursor
  pub fresh : s.spent ≡ false → AreFresh (view_of s)
