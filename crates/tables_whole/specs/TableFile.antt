-- A table as a file: the header, then the raster (SPECIFICATION 11.1).
use Rattle.std.specs.Prelude.{Bool, List, ◌++◌, ℕ}
use Rattle.tables_header.specs.Header.{header}
use Rattle.tables_rows.specs.Raster.{raster}

-- the table file of X, with n rows and w columns
unfoldable pub table_file : ℕ → ℕ → List Bool → List ℕ
table_file n w X = header w n ++ raster n w X
