-- One entry more in a record, and one device changed.
use Rattle.std.proofs.Common.{◌≡◌, ◌≢◌, inl, inr, ℕ, zero, suc, ◌+◌, ◌<◌, ◌≤◌, List, [], ◌∷◌, ◌++◌, length, map, take, drop, replicate, set, get_or, reverse, refl, sym, ◌∙◌, ap, subst, arith}
use Rattle.std.specs.declared.alloc.Global.{Global}
use Rattle.std.specs.Prelude.{Vec, vec_capacity, Bool, true, false, not, filter, All, if◌then◌else◌, ◌==◌}
use Rattle.std.proofs.lemmas.Bool.{cases_eq, eq-eqb, ne_eqb, cond-true, cond-false, eqb-true}
use Rattle.std.proofs.lemmas.List.{map-append, reverse-append, length-set, length-drop, get_or-set_same, get_or-set_other, set-get_or, map-set, get_or_default, drop-append-le, take-append-le, drop_at, take_all, length_push, length-map, append-nil}
use Rattle.std.proofs.lemmas.List.Elements.{All-head, All-tail, All-push, All-same, All-weaker, filter-append}
use Rattle.volume_disk.specs.Medium.{Medium, at_rest}
use Rattle.volume_disk.specs.Picks.{IsPicked}
use Rattle.volume_disk.specs.declared.pick.Pick.{Pick}
use Rattle.volume_disk.specs.Device.{DeviceState, Mirrors, room_of}
use Rattle.volume_disk.specs.Record.{Step, device_of, after_step, medium_after, disk_after, step_of, end_of, past_of, bases_of, no_device, Stands, Recorded, FitsBounds, Crashed, IsBlank, is_elsewhere, is_entry_elsewhere}
use Rattle.volume_disk.specs.Record.Step.{Writing}
use Rattle.volume_disk.specs.declared.recorded.Entry.{Entry}
use Rattle.volume_disk.specs.declared.recorded.Entry.TheVariants.{Write, Cut, Sync}

-- bytes that come behind don't change what an entry says
step_of_more : (bytes more : List ℕ) (e : Entry) → end_of e ≤ length bytes → step_of (bytes ++ more) e ≡ step_of bytes e
step_of_more bytes more (Write device at start len) within =
    ap (λ (l : List ℕ). Writing device at l)
    (ap (λ (l : List ℕ). take len l) (drop-append-le start bytes more (omega (arith, within))) ∙ take-append-le len (drop start bytes) more (omega (arith, within, length-drop start bytes)))
step_of_more bytes more (Cut device len) within = refl
step_of_more bytes more (Sync device) within = refl

steps_of_more : (bytes more : List ℕ) (entries : List Entry) → All (λ e. end_of e ≤ length bytes) entries → map (step_of (bytes ++ more)) entries ≡ map (step_of bytes) entries
steps_of_more bytes more [] within = refl
steps_of_more bytes more (e ∷ entries) within =
    ap (λ (s : Step). s ∷ map (step_of (bytes ++ more)) entries) (step_of_more bytes more e (All-head (λ (x : Entry). end_of x ≤ length bytes) e entries within))
    ∙ ap (λ (l : List Step). step_of bytes e ∷ l) (steps_of_more bytes more entries (All-tail (λ (x : Entry). end_of x ≤ length bytes) e entries within))

-- one entry more, with its bytes
pub past_of_more : (bytes more : List ℕ) (entries : List Entry) (e : Entry) → All (λ x. end_of x ≤ length bytes) entries → past_of (bytes ++ more) (entries ++ e ∷ []) ≡ step_of (bytes ++ more) e ∷ past_of bytes entries
past_of_more bytes more entries e within =
    ap (λ (l : List Step). reverse l) (map-append (step_of (bytes ++ more)) entries (e ∷ []))
    ∙ reverse-append (map (step_of (bytes ++ more)) entries) (step_of (bytes ++ more) e ∷ [])
    ∙ ap (λ (l : List Step). step_of (bytes ++ more) e ∷ reverse l) (steps_of_more bytes more entries within)

-- one entry more, with no bytes
pub past_of_push : (bytes : List ℕ) (entries : List Entry) (e : Entry) → past_of bytes (entries ++ e ∷ []) ≡ step_of bytes e ∷ past_of bytes entries
past_of_push bytes entries e =
    ap (λ (l : List Step). reverse l) (map-append (step_of bytes) entries (e ∷ []))
    ∙ reverse-append (map (step_of bytes) entries) (step_of bytes e ∷ [])

-- an entry for the bytes that came last
pub step_of_last : (device at : ℕ) (bytes more : List ℕ) → step_of (bytes ++ more) (Write device at (length bytes) (length more)) ≡ Writing device at more
step_of_last device at bytes more =
    ap (λ (l : List ℕ). Writing device at l) (ap (λ (l : List ℕ). take (length more) l) (drop_at bytes more (length bytes) refl) ∙ take_all (length more) more (omega arith))

-- the base of a device
pub bases_at : (devices : List DeviceState) (device : ℕ) → (get_or devices device no_device).base ≡ get_or (bases_of devices) device []
bases_at [] device = refl
bases_at (d ∷ devices) zero = refl
bases_at (d ∷ devices) (suc device) = bases_at devices device

-- a device with the same base in place of one
pub bases_of-set : (devices : List DeviceState) (device : ℕ) (state : DeviceState) → state.base ≡ (get_or devices device no_device).base → bases_of (set devices device state) ≡ bases_of devices
bases_of-set devices device state same =
    map-set (λ (d : DeviceState). d.base) devices device state
    ∙ ap (λ (b : List ℕ). set (bases_of devices) device b) (same ∙ bases_at devices device)
    ∙ set-get_or (bases_of devices) device []

-- what was read of a list of devices
pub device_read : (devices : List DeviceState) (device : ℕ) (was : DeviceState) → length devices ≡ 6 → device < 6 → was ≡ get_or devices device was → was ≡ get_or devices device no_device
device_read devices device was six is_device read = read ∙ get_or_default devices device was no_device (omega (arith, six, is_device))

-- one step more
pub stands_step : (devices : List DeviceState) (past : List Step) (space : ℕ) (device : ℕ) (step : Step) (was state : DeviceState) → Stands devices past space → device < 6
    → was ≡ get_or devices device no_device → state.base ≡ was.base → room_of state ≡ room_of was → device_of step ≡ device
    → ((m : Medium) → Mirrors was m → Mirrors state (after_step step m)) → Stands (set devices device state) (step ∷ past) space
stands_step devices past space device step was state stands is_device read base room of_device does =
    let lies : device < length devices = omega (arith, is_device, stands.six) in
    let bases : bases_of (set devices device state) ≡ bases_of devices = bases_of-set devices device state (base ∙ ap (λ (d : DeviceState). d.base) read) in
    let same : get_or (set devices device state) device no_device ≡ state = get_or-set_same devices device state no_device lies in
    let there : disk_after (step ∷ past) (bases_of (set devices device state)) device ≡ after_step step (disk_after past (bases_of devices) device) =
    ap (λ (b : List (List ℕ)). disk_after (step ∷ past) b device) bases
    ∙ cond-true (device_of step == device) (after_step step (disk_after past (bases_of devices) device)) (disk_after past (bases_of devices) device) (eq-eqb (device_of step) device of_device) in
    let here : Mirrors state (after_step step (disk_after past (bases_of devices) device)) = does (disk_after past (bases_of devices) device) (subst (λ (d : DeviceState). Mirrors d (disk_after past (bases_of devices) device)) (sym read) (stands.mirrors device is_device)) in
    record {
      six = length-set devices device state ∙ stands.six;
      space_of = λ k is_k. elim (cases_eq k device) as (λ _. room_of (get_or (set devices device state) k no_device) ≡ space) [
        | inl is ↦ ap (λ (j : ℕ). room_of (get_or (set devices device state) j no_device)) is ∙ ap room_of same ∙ room ∙ ap room_of read ∙ stands.space_of device is_device
        | inr other ↦ ap room_of (get_or-set_other devices device k state no_device other) ∙ stands.space_of k is_k
      ];
      mirrors = λ k is_k. elim (cases_eq k device) as (λ _. Mirrors (get_or (set devices device state) k no_device) (disk_after (step ∷ past) (bases_of (set devices device state)) k)) [
        | inl is ↦
            subst (λ (j : ℕ). Mirrors (get_or (set devices device state) j no_device) (disk_after (step ∷ past) (bases_of (set devices device state)) j)) (sym is)
            (subst (λ (d : DeviceState). Mirrors d (disk_after (step ∷ past) (bases_of (set devices device state)) device)) (sym same) (subst (λ (m : Medium). Mirrors state m) (sym there) here))
        | inr other ↦
            let stays : disk_after (step ∷ past) (bases_of (set devices device state)) k ≡ disk_after past (bases_of devices) k =
            ap (λ (b : List (List ℕ)). disk_after (step ∷ past) b k) bases
            ∙ cond-false (device_of step == k) (after_step step (disk_after past (bases_of devices) k)) (disk_after past (bases_of devices) k) (ne_eqb (device_of step) k (λ q. other (sym q ∙ of_device))) in
            subst (λ (d : DeviceState). Mirrors d (disk_after (step ∷ past) (bases_of (set devices device state)) k)) (sym (get_or-set_other devices device k state no_device other))
            (subst (λ (m : Medium). Mirrors (get_or devices k no_device) m) (sym stays) (stands.mirrors k is_k))
      ];
    }

-- the past after a write
pub past_of_write : (bytes more bytes_now : List ℕ) (entries entries_now : List Entry) (device at start len : ℕ) → bytes_now ≡ bytes ++ more → entries_now ≡ entries ++ Write device at start len ∷ []
    → start ≡ length bytes → len ≡ length more → All (λ x. end_of x ≤ length bytes) entries → past_of bytes_now entries_now ≡ Writing device at more ∷ past_of bytes entries
past_of_write bytes more bytes_now entries entries_now device at start len extended pushed starts lasts within =
    ap (λ (b : List ℕ). past_of b entries_now) extended
    ∙ ap (λ (l : List Entry). past_of (bytes ++ more) l) pushed
    ∙ past_of_more bytes more entries (Write device at start len) within
    ∙ ap (λ (n : ℕ). step_of (bytes ++ more) (Write device at n len) ∷ past_of bytes entries) starts
    ∙ ap (λ (n : ℕ). step_of (bytes ++ more) (Write device at (length bytes) n) ∷ past_of bytes entries) lasts
    ∙ ap (λ (s : Step). s ∷ past_of bytes entries) (step_of_last device at bytes more)

-- the record after one entry more
pub fits_more : (entries entries_now : Vec Entry Global) (bytes bytes_now : Vec ℕ Global) (moments count most_calls most_bytes : ℕ) (e : Entry)
    → FitsBounds entries bytes moments count most_calls most_bytes → entries_now.items ≡ entries.items ++ e ∷ [] → length bytes.items ≤ length bytes_now.items → end_of e ≤ length bytes_now.items
    → length bytes_now.items ≤ most_bytes → count < most_calls → vec_capacity entries ≤ vec_capacity entries_now → vec_capacity bytes ≤ vec_capacity bytes_now
    → FitsBounds entries_now bytes_now (moments + 1) (count + 1) most_calls most_bytes
fits_more entries entries_now bytes bytes_now moments count most_calls most_bytes e fits pushed grown ends within call entries_room bytes_room =
    let long : length entries_now.items ≡ length entries.items + 1 = ap length pushed ∙ length_push entries.items e in
    let P : Entry → Type 0 = λ x. end_of x ≤ length bytes_now.items in
    record {
      ends = All-same P entries_now.items (entries.items ++ e ∷ []) pushed (All-push P entries.items e (All-weaker (λ x. end_of x ≤ length bytes.items) P (λ x le. omega (arith, le, grown)) entries.items fits.ends) ends);
      fewer = omega (arith, long, fits.fewer);
      calls_in = omega (arith, call);
      moments_in = omega (arith, long, fits.moments_in);
      bytes_in = within;
      entries_room = omega (arith, fits.entries_room, entries_room);
      bytes_room = omega (arith, fits.bytes_room, bytes_room);
    }

-- the same record, part by part
pub same_record : (bases bases_now : List (List ℕ)) (past past_now : List Step) (moment counted taken taken_now room calls written : ℕ) → bases_now ≡ bases → past_now ≡ past → taken_now ≡ taken
    → (let r : Recorded = record { bases = bases_now; past = past_now; moment = moment; counted = counted; taken = taken_now; room = room; calls = calls; written = written } in r)
    ≡ record { bases = bases; past = past; moment = moment; counted = counted; taken = taken; room = room; calls = calls; written = written }
same_record bases bases_now past past_now moment counted taken taken_now room calls written same_bases same_past same_taken =
    let now : List (List ℕ) → List Step → ℕ → Recorded = λ b p t. record { bases = b; past = p; moment = moment; counted = counted; taken = t; room = room; calls = calls; written = written } in
    ap (λ (b : List (List ℕ)). now b past_now taken_now) same_bases ∙ ap (λ (p : List Step). now bases p taken_now) same_past ∙ ap (λ (t : ℕ). now bases past t) same_taken

-- the same past
pub stands_at : (devices : List DeviceState) (past other : List Step) (space : ℕ) → past ≡ other → Stands devices other space → Stands devices past space
stands_at devices past other space same stands = subst (λ (p : List Step). Stands devices p space) (sym same) stands

-- one device more has crashed
pub crashed_more : (pick : Pick) (begun devices : List DeviceState) (at : ℕ) (state : DeviceState) → at < length devices
    → ((k : ℕ) → k < at → Crashed pick (get_or begun k no_device) (get_or devices k no_device)) → Crashed pick (get_or begun at no_device) state
    → (k : ℕ) → k < at + 1 → Crashed pick (get_or begun k no_device) (get_or (set devices at state) k no_device)
crashed_more pick begun devices at state lies below here k within =
    elim (cases_eq k at) as (λ _. Crashed pick (get_or begun k no_device) (get_or (set devices at state) k no_device)) [
      | inl is ↦
          subst (λ (j : ℕ). Crashed pick (get_or begun j no_device) (get_or (set devices at state) j no_device)) (sym is)
          (subst (λ (d : DeviceState). Crashed pick (get_or begun at no_device) d) (sym (get_or-set_same devices at state no_device lies)) here)
      | inr other ↦
          subst (λ (d : DeviceState). Crashed pick (get_or begun k no_device) d) (sym (get_or-set_other devices at k state no_device other)) (below k (omega (arith, within, other)))
    ]

-- what a crash leaves of the devices
pub crash_picks : (pick : Pick) (devices crashed : List DeviceState) (past : List Step) (space device : ℕ) → Stands devices past space
    → ((k : ℕ) → k < length devices → Crashed pick (get_or devices k no_device) (get_or crashed k no_device)) → device ≤ 5
    → IsPicked pick (disk_after past (bases_of devices) device) (get_or (bases_of crashed) device [])
crash_picks pick devices crashed past space device stands each is_device =
    subst (λ (image : List ℕ). IsPicked pick (disk_after past (bases_of devices) device) image) (bases_at crashed device)
    ((each device (omega (arith, is_device, stands.six))).picked (disk_after past (bases_of devices) device) (stands.mirrors device (omega (arith, is_device))))

-- the bases of devices that are all blank
pub bases_of_blank : (space : ℕ) (devices : List DeviceState) → All (IsBlank space) devices → bases_of devices ≡ replicate (length devices) []
bases_of_blank space [] blank = refl
bases_of_blank space (d ∷ devices) blank =
    ap (λ (b : List ℕ). b ∷ bases_of devices) (All-head (IsBlank space) d devices blank).base
    ∙ ap (λ (l : List (List ℕ)). [] ∷ l) (bases_of_blank space devices (All-tail (IsBlank space) d devices blank))

-- a device as it reads where the record is empty
pub crashed_image : (past : List Step) (devices others : List DeviceState) (device : ℕ) → past ≡ [] → devices ≡ others → (disk_after past (bases_of devices) device).image ≡ get_or (bases_of others) device []
crashed_image past devices others device empty same =
    ap (λ (p : List Step). (disk_after p (bases_of devices) device).image) empty ∙ ap (λ (d : List DeviceState). get_or (bases_of d) device []) same

-- both ways of a test that an entry and its step share
cond_map : {X Y : Type 0} (f : X → Y) (b : Bool) (x : X) (xs : List X) (ys : List Y) → map f xs ≡ ys → map f (if b then x ∷ xs else xs) ≡ (if b then f x ∷ ys else ys)
cond_map f true x xs ys same = ap (λ l. f x ∷ l) same
cond_map f false x xs ys same = same

module _ (device : ℕ) where
  same_test : (bytes : List ℕ) (e : Entry) → is_entry_elsewhere device e ≡ is_elsewhere device (step_of bytes e)
  same_test bytes (Write d at start len) = refl
  same_test bytes (Cut d len) = refl
  same_test bytes (Sync d) = refl

  -- a filter of entries is one of steps
  filter_steps : (bytes : List ℕ) (entries : List Entry) → map (step_of bytes) (filter (is_entry_elsewhere device) entries) ≡ filter (is_elsewhere device) (map (step_of bytes) entries)
  filter_steps bytes [] = refl
  filter_steps bytes (e ∷ entries) =
      cond_map (step_of bytes) (is_entry_elsewhere device e) e (filter (is_entry_elsewhere device) entries) (filter (is_elsewhere device) (map (step_of bytes) entries)) (filter_steps bytes entries)
      ∙ ap (λ (b : Bool). if b then step_of bytes e ∷ filter (is_elsewhere device) (map (step_of bytes) entries) else filter (is_elsewhere device) (map (step_of bytes) entries)) (same_test bytes e)

  reverse_cond : (b : Bool) (s : Step) (steps back : List Step) → reverse steps ≡ back → reverse (if b then s ∷ steps else steps) ≡ back ++ (if b then s ∷ [] else [])
  reverse_cond true s steps back same = reverse-append (s ∷ []) steps ∙ ap (λ l. l ++ s ∷ []) same
  reverse_cond false s steps back same = same ∙ sym (append-nil back)

  filter_reverse : (steps : List Step) → reverse (filter (is_elsewhere device) steps) ≡ filter (is_elsewhere device) (reverse steps)
  filter_reverse [] = refl
  filter_reverse (s ∷ steps) =
      reverse_cond (is_elsewhere device s) s (filter (is_elsewhere device) steps) (filter (is_elsewhere device) (reverse steps)) (filter_reverse steps)
      ∙ sym (ap (λ (l : List Step). filter (is_elsewhere device) l) (reverse-append (s ∷ []) steps) ∙ filter-append (is_elsewhere device) (reverse steps) (s ∷ []))

  -- the past without the steps on a device
  pub past_of_filter : (bytes : List ℕ) (entries entries_now : List Entry) → entries_now ≡ filter (is_entry_elsewhere device) entries → past_of bytes entries_now ≡ filter (is_elsewhere device) (past_of bytes entries)
  past_of_filter bytes entries entries_now is =
      ap (λ (l : List Entry). past_of bytes l) is ∙ ap (λ (l : List Step). reverse l) (filter_steps bytes entries) ∙ filter_reverse (map (step_of bytes) entries)

  -- on that device nothing is left
  forgotten_step : (b : Bool) (s : Step) (past : List Step) (base : List ℕ) → (device_of s == device) ≡ b → medium_after past base device ≡ at_rest base → medium_after (if not b then s ∷ past else past) base device ≡ at_rest base
  forgotten_step true s past base here rest = rest
  forgotten_step false s past base there rest = cond-false (device_of s == device) (after_step s (medium_after past base device)) (medium_after past base device) there ∙ rest

  pub medium_forgotten : (past : List Step) (base : List ℕ) → medium_after (filter (is_elsewhere device) past) base device ≡ at_rest base
  medium_forgotten [] base = refl
  medium_forgotten (s ∷ past) base = forgotten_step (device_of s == device) s (filter (is_elsewhere device) past) base refl (medium_forgotten past base)

  -- the others are as they were
  elsewhere_step : (b : Bool) (s : Step) (kept past : List Step) (base : List ℕ) (other : ℕ) → other ≢ device → (device_of s == device) ≡ b → medium_after kept base other ≡ medium_after past base other
      → medium_after (if not b then s ∷ kept else kept) base other ≡ medium_after (s ∷ past) base other
  elsewhere_step true s kept past base other apart here same =
      same ∙ sym (cond-false (device_of s == other) (after_step s (medium_after past base other)) (medium_after past base other) (ne_eqb (device_of s) other (λ e. apart (sym e ∙ eqb-true (device_of s) device here))))
  elsewhere_step false s kept past base other apart there same = ap (λ (m : Medium). if device_of s == other then after_step s m else m) same

  pub medium_elsewhere : (past : List Step) (base : List ℕ) (other : ℕ) → other ≢ device → medium_after (filter (is_elsewhere device) past) base other ≡ medium_after past base other
  medium_elsewhere [] base other apart = refl
  medium_elsewhere (s ∷ past) base other apart = elsewhere_step (device_of s == device) s (filter (is_elsewhere device) past) past base other apart refl (medium_elsewhere past base other apart)

-- the bases with another image
pub bases_of_image : (devices : List DeviceState) (device : ℕ) (state : DeviceState) (image : List ℕ) → state.base ≡ image → bases_of (set devices device state) ≡ set (bases_of devices) device image
bases_of_image devices device state image base = map-set (λ (d : DeviceState). d.base) devices device state ∙ ap (λ (b : List ℕ). set (bases_of devices) device b) base

-- the device that has another image
pub image_here : (devices : List DeviceState) (past past_now : List Step) (device : ℕ) (state : DeviceState) (image : List ℕ) → device < length devices → state.base ≡ image
    → past_now ≡ filter (is_elsewhere device) past → disk_after past_now (bases_of (set devices device state)) device ≡ at_rest image
image_here devices past past_now device state image lies base kept =
    ap (λ (p : List Step). disk_after p (bases_of (set devices device state)) device) kept
    ∙ ap (λ (b : List (List ℕ)). disk_after (filter (is_elsewhere device) past) b device) (bases_of_image devices device state image base)
    ∙ ap (λ (l : List ℕ). medium_after (filter (is_elsewhere device) past) l device) (get_or-set_same (bases_of devices) device image [] (omega (arith, lies, length-map devices (λ (d : DeviceState). d.base))))
    ∙ medium_forgotten device past image

-- the other devices
pub image_elsewhere : (devices : List DeviceState) (past past_now : List Step) (device : ℕ) (state : DeviceState) (image : List ℕ) → state.base ≡ image
    → past_now ≡ filter (is_elsewhere device) past → (other : ℕ) → other ≢ device → disk_after past_now (bases_of (set devices device state)) other ≡ disk_after past (bases_of devices) other
image_elsewhere devices past past_now device state image base kept other apart =
    ap (λ (p : List Step). disk_after p (bases_of (set devices device state)) other) kept
    ∙ ap (λ (b : List (List ℕ)). disk_after (filter (is_elsewhere device) past) b other) (bases_of_image devices device state image base)
    ∙ ap (λ (l : List ℕ). medium_after (filter (is_elsewhere device) past) l other) (get_or-set_other (bases_of devices) device other image [] apart)
    ∙ medium_elsewhere device past (get_or (bases_of devices) other []) other apart

-- a device begins anew
pub stands_anew : (devices : List DeviceState) (past : List Step) (space device : ℕ) (was state : DeviceState) (image : List ℕ) → Stands devices past space → device < 6 → was ≡ get_or devices device no_device
    → state.base ≡ image → room_of state ≡ room_of was → Mirrors state (at_rest image) → Stands (set devices device state) (filter (is_elsewhere device) past) space
stands_anew devices past space device was state image stands is_device read base room rest =
    let lies : device < length devices = omega (arith, is_device, stands.six) in
    let same : get_or (set devices device state) device no_device ≡ state = get_or-set_same devices device state no_device lies in
    let kept = filter (is_elsewhere device) past in
    record {
      six = length-set devices device state ∙ stands.six;
      space_of = λ k is_k. elim (cases_eq k device) as (λ _. room_of (get_or (set devices device state) k no_device) ≡ space) [
        | inl is ↦ ap (λ (j : ℕ). room_of (get_or (set devices device state) j no_device)) is ∙ ap room_of same ∙ room ∙ ap room_of read ∙ stands.space_of device is_device
        | inr other ↦ ap room_of (get_or-set_other devices device k state no_device other) ∙ stands.space_of k is_k
      ];
      mirrors = λ k is_k. elim (cases_eq k device) as (λ _. Mirrors (get_or (set devices device state) k no_device) (disk_after kept (bases_of (set devices device state)) k)) [
        | inl is ↦
            let there = image_here devices past kept device state image lies base refl in
            subst (λ (j : ℕ). Mirrors (get_or (set devices device state) j no_device) (disk_after kept (bases_of (set devices device state)) j)) (sym is)
            (subst (λ (d : DeviceState). Mirrors d (disk_after kept (bases_of (set devices device state)) device)) (sym same) (subst (λ (m : Medium). Mirrors state m) (sym there) rest))
        | inr other ↦
            let stays = image_elsewhere devices past kept device state image base refl k other in
            subst (λ (d : DeviceState). Mirrors d (disk_after kept (bases_of (set devices device state)) k)) (sym (get_or-set_other devices device k state no_device other))
            (subst (λ (m : Medium). Mirrors (get_or devices k no_device) m) (sym stays) (stands.mirrors k is_k))
      ];
    }
