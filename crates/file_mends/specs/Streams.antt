-- WordDocument and the table stream of a file, with their sectors.
use Rattle.std.specs.Prelude.{◌≡◌, ℕ, ◌≤◌, List, Option, Some, length, slice_get}
use Rattle.cfb_directory.specs.Directory.{AreSameNames}
use Rattle.cfb_streams.specs.Contents.{Contents, Stream}
use Rattle.cfb_streams.specs.Container.{HasContents}
use Rattle.cfb_streams.specs.Names.{wd_name, table_name}
use Rattle.fib_form.specs.Fib.{fib_which_table}

-- their bytes, and the sectors of each, where it has sectors of its own
pub record FileStreams : Type 0 where
  pub wd : List ℕ
  pub wd_sectors : Option (List ℕ)
  pub table : List ℕ
  pub table_sectors : Option (List ℕ)

-- one of the streams has the name, these bytes and these sectors
pub record HasStream (contents : Contents) (name bytes : List ℕ) (sectors : Option (List ℕ)) : Type 0 where
  pub index : ℕ
  pub stream : Stream
  pub here : slice_get contents.streams index ≡ Some stream
  pub named : AreSameNames stream.name name
  pub bytes_are : bytes ≡ stream.bytes
  pub sectors_are : sectors ≡ stream.chain

-- WordDocument has a FIB, and they are it and the table stream that the FIB uses
pub record AreFileStreams (contents : Contents) (streams : FileStreams) : Type 0 where
  pub wd : HasStream contents wd_name streams.wd streams.wd_sectors
  pub long : 900 ≤ length streams.wd
  pub table : HasStream contents (table_name (fib_which_table streams.wd)) streams.table streams.table_sectors

-- the streams are those of a file, so no two have one name
pub record IsOfFile (contents : Contents) : Type 0 where
  pub file : List ℕ
  pub has : HasContents file contents
