-- Document 01, "Accounts for at most 96 tags travel as one record, in tag order": what a record means, and what a call on a tag
-- makes of it.
use Rattle.std.specs.Prelude.{ℕ, ◌+◌, ◌-◌, ◌≤◌, Bool, cond, List, ◌++◌, ◌≡◌, ltb, length, take, replicate, Result, Ok, Err}
use Rattle.numbers.specs.declared.refusal.Refusal.{Refusal}
use Rattle.numbers.specs.declared.refusal.Refusal.TheVariants.{Full}
use Rattle.tagspace.specs.Row.{blank, reserve, unreserve, fits}
use Rattle.accounting.specs.declared.Accounting.{Accounting}
use Rattle.accounting.specs.declared.Asked.{Asked}
use Rattle.accounting.specs.declared.Posted.{Posted}
use Rattle.tagspace.specs.declared.TagSpace.{TagSpace}
use Rattle.numbers.specs.Keyed.{HasKey, InKeyOrder, keyed, put_keyed}
use Rattle.numbers.specs.Sums.{stop}

-- What accounts mean: a row for each tag that has one, in tag order, and the bytes reserved of all tags.
pub record Table : Type 0 where
  pub rows : List TagSpace
  pub total : ℕ

-- The record of a table: its rows, and blank ones up to 96.
unfoldable pub accounts_of : Table → Accounting
accounts_of t = record { rows = t.rows ++ replicate (96 - length t.rows) (blank 0); count = length t.rows; reserved = t.total }

-- The table of a record; `table_accounts` (proofs/Tables) says that it is the one that the record was made of.
unfoldable pub table_of : Accounting → Table
table_of a = record { rows = take a.count a.rows; total = a.reserved }

-- A row's key is its tag.
abbrev pub tag_of : TagSpace → ℕ
tag_of r = r.tag

-- "in tag order", one row a tag.
abbrev pub InTagOrder : List TagSpace → Type 0
InTagOrder rs = InKeyOrder tag_of rs

-- A record that a call handed back: that of a table of "at most 96 tags" in order.
pub record Valid (a : Accounting) : Type 0 where
  pub few : a.count ≤ 96
  pub order : InTagOrder (table_of a).rows
  pub record_of : a ≡ accounts_of (table_of a)

-- A tag is known: it has a row.
abbrev pub HasRow : ℕ → List TagSpace → Type 0
HasRow tag rs = HasKey tag_of tag rs

-- The row of a tag, a blank one where it has none; `keyed_there` and `keyed_none` (proofs/Keyed of `numbers`) say so.
abbrev pub row_of : ℕ → List TagSpace → TagSpace
row_of tag rs = keyed tag_of (blank tag) tag rs

-- The rows with one put in its place, over the row of the same tag where there is one; `put_order` (proofs/Keyed of `numbers`):
-- in order still.
abbrev pub put : TagSpace → List TagSpace → List TagSpace
put x rs = put_keyed tag_of x rs

-- "Every call on a tag .. makes a row for an unknown one": the table with a rule carried out on the tag's row. `own_row` and
-- `other_row` (proofs/Words) say what each tag's row is then.
unfoldable pub on_row : ℕ → (TagSpace → TagSpace) → Table → Table
on_row tag rule t = record { rows = put (rule (row_of tag t.rows)) t.rows; total = t.total }

abbrev pub with_total : ℕ → Table → Table
with_total n t = record { rows = t.rows; total = n }

-- Bytes reserved for a tag count in its row and in the total.
unfoldable pub reserving : ℕ → ℕ → Table → Table
reserving tag bytes t = with_total (stop (t.total + bytes)) (on_row tag (reserve bytes) t)

-- And are taken from both again, down to 0.
unfoldable pub unreserving : ℕ → ℕ → Table → Table
unreserving tag bytes t = with_total (t.total - bytes) (on_row tag (unreserve bytes) t)

-- `fits` changes no row.
abbrev pub same : TagSpace → TagSpace
same r = r

-- What is handed back where a table t is to become `next`: 19 for the "97th tag", and a refused call "changes nothing".
-- `refused_full`, `kept_known` and `kept_room` (proofs/Words) say when that is.
unfoldable pub handed : Table → Table → Posted
handed t next =
    cond (ltb 96 (length next.rows)) (record { answer = Err Full; accounts = accounts_of t })
    (record { answer = Ok tt; accounts = accounts_of next })

-- What a call on a tag promises: of a record that a call handed back, the answer, and that it hands back such a record; of every record,
-- "A refused call returns its number alone and changes nothing".
pub record Posts (a : Accounting) (next : Table → Table) (r : Posted) : Type 0 where
  pub answer : Valid a → r ≡ handed (table_of a) (next (table_of a))
  pub valid : Valid a → Valid r.accounts
  pub refused : (n : Refusal) → r.answer ≡ Err n → r.accounts ≡ a

-- A call's answer, and the accounts as it left them.
abbrev pub leaving : Result (Unit {0}) Refusal → Accounting → Posted
leaving answer accounts = record { answer = answer; accounts = accounts }

-- The answer of a call that tells something, where it is not refused.
abbrev pub answering : Bool → Result (Unit {0}) Refusal → Result Bool Refusal
answering ok (Ok done) = Ok ok
answering ok (Err e) = Err e

abbrev pub asked : Posted → Bool → Asked
asked p ok = record { answer = answering ok p.answer; accounts = p.accounts }

-- What `fits` promises.
pub record Asks (a : Accounting) (tag extra : ℕ) (r : Asked) : Type 0 where
  pub answer : Valid a → r ≡ asked (handed (table_of a) (on_row tag same (table_of a))) (fits extra (row_of tag (table_of a).rows))
  pub valid : Valid a → Valid r.accounts

-- What `allows` promises: the answer of `fits`, of accounts in which it makes no row.
pub record Allows (a : Accounting) (tag extra : ℕ) (r : Result Bool Refusal) : Type 0 where
  pub answer : Valid a → r ≡ answering (fits extra (row_of tag (table_of a).rows)) (handed (table_of a) (on_row tag same (table_of a))).answer
