-- What the code writes of a lane, at each level.
-- Put: from its rows and its plan; Rows: each lane's rows in a buffer, their plans and bytes.
pub mod Put
pub mod Rows
