mod Products
mod Testing
