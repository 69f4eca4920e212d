pub mod Given
pub mod Raster
pub mod RasterLaws
pub mod TableLaws
