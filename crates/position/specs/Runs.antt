-- Lists of calls on a plan, over whatever the contracts of the calls let their caller learn: `Learnt` of a function's `Reads` is the
-- facts that its contract gives the caller of one call.
use Rattle.std.specs.Prelude.{ℕ, List, [], ◌∷◌, Option}
use base.Fml.{GName, Lft}
use Rattle.std.specs.Borrow.{Bor, MutBor}
use Rattle.model.specs.Calls.{Call, create, grow, publish, drop, cap, locate}
use Rattle.footprint.specs.declared.Limits.{Limits}
use Rattle.model.specs.Open.{Opening}
use Rattle.numbers.specs.Refusals.{Answer}
use Rattle.plan.proofs.cap.Reads as cap_reads
use Rattle.plan.proofs.create.Reads as create_reads
use Rattle.plan.proofs.drop.Reads as drop_reads
use Rattle.plan.proofs.grow.Reads as grow_reads
use Rattle.plan.proofs.locate.Reads as locate_reads
use Rattle.plan.proofs.publish.Reads as publish_reads
use Rattle.plan_checks.specs.declared.container.Opening as container
use Rattle.plan_open.proofs.open.Reads as open_reads
use Rattle.plan_open.specs.Open.{opening_of}
use Rattle.plan_record.proofs.Plan.free.Reads as free_reads
use Rattle.plan_record.proofs.Plan.held.Reads as held_reads
use Rattle.plan_record.proofs.Plan.logical.Reads as logical_reads
use Rattle.plan_record.proofs.Plan.physical.Reads as physical_reads
use Rattle.plan_record.specs.Plan.{reply_of, Reply}
use Rattle.plan_record.specs.declared.Outcome.{Outcome}
use Rattle.plan_record.specs.declared.Plan.{Plan}
use Rattle.plan_record.specs.declared.Record.{Record}

-- ---- a plan

-- The whole of a plan: its record, and the lists that its holder lends to each call.
pub record Whole : Type 0 where
  pub plan : Plan
  pub extents : List ℕ
  pub starts : List ℕ
  pub files : List ℕ

-- ---- what a caller learns of one call

-- How the record or a list was lent to a call: for how long, where it stands and under which ghost name. No contract speaks of these.
pub record Loan : Type 0 where
  pub lifetime : Lft
  pub ptr : ℕ × ℕ
  pub name : GName

-- The references that are passed, with what stands there: one to write by, and one to read by alone, which has no ghost name.
abbrev pub show : {A : Type 0} → Loan → A → Bor A
show l x = record { ref_ptr = l.ptr; now = x }

abbrev pub lend : {A : Type 0} → Loan → A → MutBor A
lend l x = record { ref_ptr = l.ptr; ghost_name = l.name; now = x }

-- The loans of a call: of the plan's record and its three lists, and of a name.
pub record Loans : Type 0 where
  pub plan : Loan
  pub extents : Loan
  pub starts : Loan
  pub files : Loan
  pub name : Loan

-- What `plan_open::open` is called with, beside the lists of the plan and scratch.
pub record Arguments : Type 0 where
  pub limits : Limits
  pub records : List Record
  -- the headers' extent lists, one behind the other
  pub listed : List ℕ

-- These, as they are passed: the records and the listed extents are lent for the same time, that of the records.
abbrev pub given : (records listed : Loan) → Arguments → container.Opening
given q a o = record { limits = o.limits; records = show q o.records; listed = show a o.listed }

-- `plan_open::open(opening, scratch, extents, starts, files)` was called with scratch s and the lists of h, answered r, and left
-- scratch and the lists as they are in t and k.
abbrev pub OpensWith : Loans → (records listed scratch : Loan) → Arguments → (s : List ℕ) → Whole → Outcome → (t : List ℕ) → Whole → Type 0
OpensWith l q a b o s h r t k =
    open_reads.Learnt (q.lifetime, (b.lifetime, (l.extents.lifetime, (l.starts.lifetime, (l.files.lifetime, tt)))))
    (given q a o, (lend b s, (lend l.extents h.extents, (lend l.starts h.starts, (lend l.files h.files, tt)))))
    r
    (given q a o, (lend b t, (lend l.extents k.extents, (lend l.starts k.starts, (lend l.files k.files, tt)))))

-- What these arguments say to the model.
abbrev pub opening_with : Arguments → List ℕ → Whole → Opening
opening_with o s h = opening_of o.limits o.records o.listed s h.extents h.starts h.files

-- `plan::create(plan, extents, starts, files, id, tag, name)` was called with h and answered r, and left record and lists as they are in k.
abbrev pub Creates : Loans → Whole → (id tag : ℕ) → List ℕ → Reply → Whole → Type 0
Creates l h id tag name r k =
    create_reads.Learnt (l.plan.lifetime, (l.extents.lifetime, (l.starts.lifetime, (l.files.lifetime, (l.name.lifetime, tt)))))
    (lend l.plan h.plan, (lend l.extents h.extents, (lend l.starts h.starts, (lend l.files h.files, (id, (tag, (show l.name name, tt)))))))
    r
    (lend l.plan k.plan, (lend l.extents k.extents, (lend l.starts k.starts, (lend l.files k.files, (id, (tag, (show l.name name, tt)))))))

-- `plan::grow(plan, extents, starts, files, id)`
abbrev pub Grows : Loans → Whole → ℕ → Reply → Whole → Type 0
Grows l h id r k =
    grow_reads.Learnt (l.plan.lifetime, (l.extents.lifetime, (l.starts.lifetime, (l.files.lifetime, tt))))
    (lend l.plan h.plan, (lend l.extents h.extents, (lend l.starts h.starts, (lend l.files h.files, (id, tt)))))
    r
    (lend l.plan k.plan, (lend l.extents k.extents, (lend l.starts k.starts, (lend l.files k.files, (id, tt)))))

-- `plan::drop(plan, extents, starts, files, id)`
abbrev pub Drops : Loans → Whole → ℕ → Reply → Whole → Type 0
Drops l h id r k =
    drop_reads.Learnt (l.plan.lifetime, (l.extents.lifetime, (l.starts.lifetime, (l.files.lifetime, tt))))
    (lend l.plan h.plan, (lend l.extents h.extents, (lend l.starts h.starts, (lend l.files h.files, (id, tt)))))
    r
    (lend l.plan k.plan, (lend l.extents k.extents, (lend l.starts k.starts, (lend l.files k.files, (id, tt)))))

-- `plan::publish(plan, id, len)` and `plan::cap(plan, tag, limit)` take no lists; p is the record that they leave.
abbrev pub Publishes : Loans → Whole → (id len : ℕ) → Reply → Plan → Type 0
Publishes l h id len r p =
    publish_reads.Learnt (l.plan.lifetime, tt) (lend l.plan h.plan, (id, (len, tt))) r (lend l.plan p, (id, (len, tt)))

abbrev pub Caps : Loans → Whole → ℕ → Option ℕ → Reply → Plan → Type 0
Caps l h tag limit r p =
    cap_reads.Learnt (l.plan.lifetime, tt) (lend l.plan h.plan, (tag, (limit, tt))) r (lend l.plan p, (tag, (limit, tt)))

-- `plan::locate(plan, starts, files, id, pos, n)` reads.
abbrev pub Locates : Loans → Whole → (id pos n : ℕ) → Reply → Type 0
Locates l h id pos n r =
    locate_reads.Learnt (l.plan.lifetime, (l.starts.lifetime, (l.files.lifetime, tt)))
    (show l.plan h.plan, (show l.starts h.starts, (show l.files h.files, (id, (pos, (n, tt))))))
    r
    (show l.plan h.plan, (show l.starts h.starts, (show l.files h.files, (id, (pos, (n, tt))))))

-- The figures read the record: `held(plan)`, `free(plan)`, `physical(plan, tag)` and `logical(plan, tag)`.
abbrev pub TellsHeld : Loan → Whole → ℕ → Type 0
TellsHeld l h r = held_reads.Learnt (l.lifetime, tt) (show l h.plan, tt) r (show l h.plan, tt)

abbrev pub TellsFree : Loan → Whole → ℕ → Type 0
TellsFree l h r = free_reads.Learnt (l.lifetime, tt) (show l h.plan, tt) r (show l h.plan, tt)

abbrev pub TellsPhysical : Loan → Whole → (tag r : ℕ) → Type 0
TellsPhysical l h tag r = physical_reads.Learnt (l.lifetime, tt) (show l h.plan, (tag, tt)) r (show l h.plan, (tag, tt))

abbrev pub TellsLogical : Loan → Whole → (tag r : ℕ) → Type 0
TellsLogical l h tag r = logical_reads.Learnt (l.lifetime, tt) (show l h.plan, (tag, tt)) r (show l h.plan, (tag, tt))

-- ---- lists of calls

-- With another plan's record, and the lists as they are.
abbrev pub with_plan : Whole → Plan → Whole
with_plan h p = record { plan = p; extents = h.extents; starts = h.starts; files = h.files }

-- A list of calls and their answers, from h to k: "Each call gets the plan as the last one left it", record and lists.
pub data Run : Whole → List Call → List (Answer (Option ℕ)) → Whole → Type 0 where
  ends : {h : Whole} → Run h [] [] h
  creates :
      {h k : Whole} {cs : List Call} {ns : List (Answer (Option ℕ))} (l : Loans) (id tag : ℕ) (name : List ℕ) (r : Reply) (j : Whole) →
      Creates l h id tag name r j →
      Run j cs ns k →
      Run h (create id tag name ∷ cs) (reply_of r ∷ ns) k
  grows :
      {h k : Whole} {cs : List Call} {ns : List (Answer (Option ℕ))} (l : Loans) (id : ℕ) (r : Reply) (j : Whole) →
      Grows l h id r j →
      Run j cs ns k →
      Run h (grow id ∷ cs) (reply_of r ∷ ns) k
  publishes :
      {h k : Whole} {cs : List Call} {ns : List (Answer (Option ℕ))} (l : Loans) (id len : ℕ) (r : Reply) (p : Plan) →
      Publishes l h id len r p →
      Run (with_plan h p) cs ns k →
      Run h (publish id len ∷ cs) (reply_of r ∷ ns) k
  drops :
      {h k : Whole} {cs : List Call} {ns : List (Answer (Option ℕ))} (l : Loans) (id : ℕ) (r : Reply) (j : Whole) →
      Drops l h id r j →
      Run j cs ns k →
      Run h (drop id ∷ cs) (reply_of r ∷ ns) k
  caps :
      {h k : Whole} {cs : List Call} {ns : List (Answer (Option ℕ))} (l : Loans) (tag : ℕ) (limit : Option ℕ) (r : Reply) (p : Plan) →
      Caps l h tag limit r p →
      Run (with_plan h p) cs ns k →
      Run h (cap tag limit ∷ cs) (reply_of r ∷ ns) k
  locates :
      {h k : Whole} {cs : List Call} {ns : List (Answer (Option ℕ))} (l : Loans) (id pos n : ℕ) (r : Reply) →
      Locates l h id pos n r →
      Run h cs ns k →
      Run h (locate id pos n ∷ cs) (reply_of r ∷ ns) k
