-- Laws of laying out a lane.
-- Laws of lanes that are planned and written.
pub mod Laws
